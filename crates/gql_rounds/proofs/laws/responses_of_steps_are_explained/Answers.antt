use Rattle.gql_rounds.proofs.InFull.{InFullLaws, answered-in-full}
use Rattle.gql_rounds.proofs.laws.responses_of_steps_are_explained.Goals as goal

pub returns : goal.returns
returns c =
    let laws : InFullLaws =
    record {
      schema = c.readiness_is_one.ensures.schema;
      document = c.readiness_is_one.ensures.document;
      operation = c.readiness_is_one.ensures.operation;
      variables = c.readiness_is_one.ensures.variables;
      plain = c.nothing_is_left_out_where_nothing_is_asked.ensures.plain;
      introspected = c.nothing_is_left_out_where_nothing_is_asked.ensures.introspected;
    } in
    λ table wanted bytes answered nothing. answered-in-full laws table wanted bytes answered nothing
