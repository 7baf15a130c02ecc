use Rattle.gql_checker.proofs.One.{IsOneWay, only-explained}
use Rattle.gql_checker.proofs.laws.explained_responses_have_one_verdict.Goals as goal

pub returns : goal.returns
returns types c = λ type_of resolves root wanted response it one other.
    let law = c.readiness_is_one.ensures in
    let way : IsOneWay wanted =
    record { schema = law.schema wanted; document = law.document wanted; operation = law.operation wanted; variables = law.variables wanted } in
    only-explained type_of resolves root wanted way response it one other
