use Rattle.gql_resolvers.proofs.Skipless.{no_skip}
use Rattle.gql_resolvers.proofs.laws.skipless_resolvers_reach_no_skip.Goals as goal

pub returns : goal.returns
returns types c = λ w skipless root initial all. no_skip w skipless root initial all
