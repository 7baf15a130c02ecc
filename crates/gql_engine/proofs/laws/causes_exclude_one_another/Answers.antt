use Rattle.gql_engine.proofs.Causes.{Laws, comes, has_cause, memory_of_ready, one_cause, only_memory, unread_cause}
use Rattle.gql_engine.proofs.laws.causes_exclude_one_another.Goals as goal

pub returns-clause-calls : goal.returns-clause-calls
returns-clause-calls c =
    let laws : Laws = record {
      one_value = c.each_text_has_one_answer.ensures.value;
      no_value = c.each_text_has_one_answer.ensures.not_both;
      one_fault = c.each_text_has_one_answer.ensures.fault;
      one_schema = c.texts_have_one_schema.ensures.schema;
      no_schema = c.texts_have_one_schema.ensures.no_faults;
      one_list = c.texts_have_one_schema.ensures.faults;
      one_document = c.texts_have_one_document_each.ensures.document;
      no_document = c.texts_have_one_document_each.ensures.no_faults;
      same_list = c.texts_have_one_document_each.ensures.faults;
    } in
    λ call error told not h k. comes laws call error told not h k

pub returns-clause-valid : goal.returns-clause-valid
returns-clause-valid c =
    let laws : Laws = record {
      one_value = c.each_text_has_one_answer.ensures.value;
      no_value = c.each_text_has_one_answer.ensures.not_both;
      one_fault = c.each_text_has_one_answer.ensures.fault;
      one_schema = c.texts_have_one_schema.ensures.schema;
      no_schema = c.texts_have_one_schema.ensures.no_faults;
      one_list = c.texts_have_one_schema.ensures.faults;
      one_document = c.texts_have_one_document_each.ensures.document;
      no_document = c.texts_have_one_document_each.ensures.no_faults;
      same_list = c.texts_have_one_document_each.ensures.faults;
    } in
    λ call error valid h. only_memory laws call valid error h

pub returns-clause-wanted : goal.returns-clause-wanted
returns-clause-wanted c =
    let laws : Laws = record {
      one_value = c.each_text_has_one_answer.ensures.value;
      no_value = c.each_text_has_one_answer.ensures.not_both;
      one_fault = c.each_text_has_one_answer.ensures.fault;
      one_schema = c.texts_have_one_schema.ensures.schema;
      no_schema = c.texts_have_one_schema.ensures.no_faults;
      one_list = c.texts_have_one_schema.ensures.faults;
      one_document = c.texts_have_one_document_each.ensures.document;
      no_document = c.texts_have_one_document_each.ensures.no_faults;
      same_list = c.texts_have_one_document_each.ensures.faults;
    } in
    λ wanted error told not h k. one_cause wanted laws error told not h k

pub returns-clause-ready : goal.returns-clause-ready
returns-clause-ready c =
    let laws : Laws = record {
      one_value = c.each_text_has_one_answer.ensures.value;
      no_value = c.each_text_has_one_answer.ensures.not_both;
      one_fault = c.each_text_has_one_answer.ensures.fault;
      one_schema = c.texts_have_one_schema.ensures.schema;
      no_schema = c.texts_have_one_schema.ensures.no_faults;
      one_list = c.texts_have_one_schema.ensures.faults;
      one_document = c.texts_have_one_document_each.ensures.document;
      no_document = c.texts_have_one_document_each.ensures.no_faults;
      same_list = c.texts_have_one_document_each.ensures.faults;
    } in
    λ wanted error ready h. memory_of_ready wanted laws ready error h

pub returns-clause-lifted : goal.returns-clause-lifted
returns-clause-lifted c =
    λ call members error object h. has_cause call members object error h

pub returns-clause-unread : goal.returns-clause-unread
returns-clause-unread c =
    λ call error h. unread_cause call error h
