use Rattle.gql_resolvers.proofs.Deeper.{deeper}
use Rattle.gql_resolvers.proofs.laws.deeper_runs_give_the_same.Goals as goal

pub returns : goal.returns
returns types c = λ w depth U s enough x outer. deeper w depth U s enough x outer
