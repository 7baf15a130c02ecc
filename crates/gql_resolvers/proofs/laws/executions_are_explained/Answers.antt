use Rattle.std.specs.Prelude.{Contains}
use Rattle.std.proofs.lemmas.List.Elements.{All-contains_itself, recursion_from_All}
use Rattle.gql_resolvers.proofs.Explains.{explained}
use Rattle.gql_resolvers.proofs.laws.executions_are_explained.Goals as goal

pub returns : goal.returns
returns types c = λ w lawful depth root initial all enough no_skip.
    explained w lawful.failure_misfits lawful.object_typed root initial all no_skip (Contains _) depth enough (recursion_from_All (Contains _) _ (All-contains_itself _))
