use Rattle.gql_cost.proofs.SmallQueries.{objects}
use Rattle.gql_cost.proofs.examples.objects_cost_their_fields.Goals as goal

pub returns : goal.returns
returns c = objects
