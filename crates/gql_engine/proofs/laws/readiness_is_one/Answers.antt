use Rattle.gql_engine.proofs.Causes.{Laws, one_ready_document, one_ready_operation, one_ready_schema, one_ready_values, same_members}
use Rattle.gql_engine.proofs.laws.readiness_is_one.Goals as goal

pub returns-clause-schema : goal.returns-clause-schema
returns-clause-schema c =
    let laws : Laws = record {
      one_value = c.each_text_has_one_answer.ensures.value;
      no_value = c.each_text_has_one_answer.ensures.not_both;
      one_fault = c.each_text_has_one_answer.ensures.fault;
      one_schema = c.texts_have_one_schema.ensures.schema;
      no_schema = c.texts_have_one_schema.ensures.no_faults;
      one_list = c.texts_have_one_schema.ensures.faults;
      one_document = c.texts_have_one_document_each.ensures.document;
      no_document = c.texts_have_one_document_each.ensures.no_faults;
      same_list = c.texts_have_one_document_each.ensures.faults;
    } in
    λ wanted one other. one_ready_schema wanted laws one other

pub returns-clause-document : goal.returns-clause-document
returns-clause-document c =
    let laws : Laws = record {
      one_value = c.each_text_has_one_answer.ensures.value;
      no_value = c.each_text_has_one_answer.ensures.not_both;
      one_fault = c.each_text_has_one_answer.ensures.fault;
      one_schema = c.texts_have_one_schema.ensures.schema;
      no_schema = c.texts_have_one_schema.ensures.no_faults;
      one_list = c.texts_have_one_schema.ensures.faults;
      one_document = c.texts_have_one_document_each.ensures.document;
      no_document = c.texts_have_one_document_each.ensures.no_faults;
      same_list = c.texts_have_one_document_each.ensures.faults;
    } in
    λ wanted one other. one_ready_document wanted laws one other

pub returns-clause-operation : goal.returns-clause-operation
returns-clause-operation c =
    let laws : Laws = record {
      one_value = c.each_text_has_one_answer.ensures.value;
      no_value = c.each_text_has_one_answer.ensures.not_both;
      one_fault = c.each_text_has_one_answer.ensures.fault;
      one_schema = c.texts_have_one_schema.ensures.schema;
      no_schema = c.texts_have_one_schema.ensures.no_faults;
      one_list = c.texts_have_one_schema.ensures.faults;
      one_document = c.texts_have_one_document_each.ensures.document;
      no_document = c.texts_have_one_document_each.ensures.no_faults;
      same_list = c.texts_have_one_document_each.ensures.faults;
    } in
    λ wanted one other. one_ready_operation wanted laws one other

pub returns-clause-variables : goal.returns-clause-variables
returns-clause-variables c =
    let laws : Laws = record {
      one_value = c.each_text_has_one_answer.ensures.value;
      no_value = c.each_text_has_one_answer.ensures.not_both;
      one_fault = c.each_text_has_one_answer.ensures.fault;
      one_schema = c.texts_have_one_schema.ensures.schema;
      no_schema = c.texts_have_one_schema.ensures.no_faults;
      one_list = c.texts_have_one_schema.ensures.faults;
      one_document = c.texts_have_one_document_each.ensures.document;
      no_document = c.texts_have_one_document_each.ensures.no_faults;
      same_list = c.texts_have_one_document_each.ensures.faults;
    } in
    λ wanted one other. one_ready_values wanted laws one other

pub returns-clause-members : goal.returns-clause-members
returns-clause-members c =
    let laws : Laws = record {
      one_value = c.each_text_has_one_answer.ensures.value;
      no_value = c.each_text_has_one_answer.ensures.not_both;
      one_fault = c.each_text_has_one_answer.ensures.fault;
      one_schema = c.texts_have_one_schema.ensures.schema;
      no_schema = c.texts_have_one_schema.ensures.no_faults;
      one_list = c.texts_have_one_schema.ensures.faults;
      one_document = c.texts_have_one_document_each.ensures.document;
      no_document = c.texts_have_one_document_each.ensures.no_faults;
      same_list = c.texts_have_one_document_each.ensures.faults;
    } in
    λ text one other h k. same_members laws text one other h k
