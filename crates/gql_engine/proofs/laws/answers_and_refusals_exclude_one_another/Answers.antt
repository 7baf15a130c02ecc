use Rattle.gql_engine.proofs.Causes.{Laws, meant_or_faulty, none_unanswered}
use Rattle.gql_engine.proofs.laws.answers_and_refusals_exclude_one_another.Goals as goal

pub returns-clause-unanswered : goal.returns-clause-unanswered
returns-clause-unanswered c =
    let laws : Laws = record {
      one_value = c.each_text_has_one_answer.ensures.value;
      no_value = c.each_text_has_one_answer.ensures.not_both;
      one_fault = c.each_text_has_one_answer.ensures.fault;
      one_schema = c.texts_have_one_schema.ensures.schema;
      no_schema = c.texts_have_one_schema.ensures.no_faults;
      one_list = c.texts_have_one_schema.ensures.faults;
      one_document = c.texts_have_one_document_each.ensures.document;
      no_document = c.texts_have_one_document_each.ensures.no_faults;
      same_list = c.texts_have_one_document_each.ensures.faults;
    } in
    λ wanted errors ready h. none_unanswered wanted laws ready h

pub returns-clause-faulty : goal.returns-clause-faulty
returns-clause-faulty c =
    let laws : Laws = record {
      one_value = c.each_text_has_one_answer.ensures.value;
      no_value = c.each_text_has_one_answer.ensures.not_both;
      one_fault = c.each_text_has_one_answer.ensures.fault;
      one_schema = c.texts_have_one_schema.ensures.schema;
      no_schema = c.texts_have_one_schema.ensures.no_faults;
      one_list = c.texts_have_one_schema.ensures.faults;
      one_document = c.texts_have_one_document_each.ensures.document;
      no_document = c.texts_have_one_document_each.ensures.no_faults;
      same_list = c.texts_have_one_document_each.ensures.faults;
    } in
    λ schema query list meant faults. meant_or_faulty laws schema query list meant faults
