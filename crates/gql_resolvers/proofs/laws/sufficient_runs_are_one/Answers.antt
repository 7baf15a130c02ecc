use Rattle.gql_resolvers.proofs.OneRun.{one_run}
use Rattle.gql_resolvers.proofs.laws.sufficient_runs_are_one.Goals as goal

pub returns : goal.returns
returns types c = λ w depth other U s enough also x outer. one_run w depth other U s enough also x outer
