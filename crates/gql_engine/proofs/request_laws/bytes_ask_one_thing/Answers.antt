use Rattle.gql_engine.proofs.Readings.{asked_or_not, one_message, one_request}
use Rattle.gql_engine.proofs.request_laws.bytes_ask_one_thing.Goals as goal

pub returns-clause-request : goal.returns-clause-request
returns-clause-request c = λ form bytes one other h k.
    one_request c.each_text_has_one_answer.ensures.value c.each_text_has_one_answer.ensures.not_both c.each_text_has_one_answer.ensures.fault form bytes one other h k

pub returns-clause-not_both : goal.returns-clause-not_both
returns-clause-not_both c = λ form bytes request message h k.
    asked_or_not c.each_text_has_one_answer.ensures.value c.each_text_has_one_answer.ensures.not_both c.each_text_has_one_answer.ensures.fault form bytes request
    message h k

pub returns-clause-message : goal.returns-clause-message
returns-clause-message c = λ form bytes one other h k.
    one_message c.each_text_has_one_answer.ensures.value c.each_text_has_one_answer.ensures.not_both c.each_text_has_one_answer.ensures.fault form bytes one other h k
