use Rattle.gql_engine.proofs.Requests.{asks_these}
use Rattle.gql_engine.proofs.request_laws.self_tests_ask_this.Goals as goal

pub returns : goal.returns
returns c = λ items request low asks. asks_these items c.each_text_has_one_answer.ensures.value request low asks
