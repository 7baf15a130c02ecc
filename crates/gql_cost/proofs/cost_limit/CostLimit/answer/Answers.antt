use Rattle.gql_engine.specs.Service.{asked_of}
use Rattle.gql_cost.proofs.Calls.{asks-within}
use Rattle.gql_cost.proofs.Exact.{EngineLaws, call-exact, call-valid}
use Rattle.gql_cost.proofs.cost_limit.CostLimit.answer.Goals as goal

pub returns-clause-answer : goal.returns-clause-answer
returns-clause-answer g c =
    let laws : EngineLaws =
    record {
      calls = c.causes_exclude_one_another.ensures.calls;
      valid = c.causes_exclude_one_another.ensures.valid;
      wanted = c.causes_exclude_one_another.ensures.wanted;
      ready = c.causes_exclude_one_another.ensures.ready;
      document = c.readiness_is_one.ensures.document;
      operation = c.readiness_is_one.ensures.operation;
      members = c.readiness_is_one.ensures.members;
    } in
    record {
      answered = c.answer_question.ensures.answered;
      refused = c.answer_question.ensures.refused;
      exact =
          call-exact laws c.args.self.now (asked_of c.args.service.now c.args.question.now) (asks-within g.O.ObjectValue.type_of g.O.ObjectValue.resolves (g.O.ObjectValue.seen c.args.root.now) c.args.self.now (asked_of c.args.service.now c.args.question.now)) c.answer_question.result
          c.answer_question.ensures.answered c.answer_question.ensures.refused;
      valid = call-valid laws c.args.self.now (asked_of c.args.service.now c.args.question.now) c.answer_question.result c.answer_question.ensures.refused;
    }
