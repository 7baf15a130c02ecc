use Rattle.gql_engine.specs.Wanted.{wanted_over}
use Rattle.gql_cost.proofs.Exact.{EngineLaws, wanted-exact, wanted-valid}
use Rattle.gql_cost.proofs.cost_limit.CostLimit.answer_prepared.Goals as goal

pub returns-clause-answer : goal.returns-clause-answer
returns-clause-answer g c =
    let laws : EngineLaws =
    record {
      calls = c.causes_exclude_one_another.ensures.calls;
      valid = c.causes_exclude_one_another.ensures.valid;
      wanted = c.causes_exclude_one_another.ensures.wanted;
      ready = c.causes_exclude_one_another.ensures.ready;
      document = c.readiness_is_one.ensures.document;
      operation = c.readiness_is_one.ensures.operation;
      members = c.readiness_is_one.ensures.members;
    } in
    record {
      answered = c.respond_within.ensures.answered;
      refused = c.respond_within.ensures.refused;
      exact =
          wanted-exact laws c.args.self.now (wanted_over c.args.prepared.now.schema c.args.prepared.now.query c.args.wanted.now) (λ bytes within. record { ready = within.answered.ready; costs = within.costs }) c.respond_within.result
          c.respond_within.ensures.answered c.respond_within.ensures.refused;
      valid = wanted-valid laws c.args.self.now (wanted_over c.args.prepared.now.schema c.args.prepared.now.query c.args.wanted.now) c.respond_within.result c.respond_within.ensures.refused;
    }
