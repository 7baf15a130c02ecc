use Rattle.gql_resolvers.proofs.DataSkips.{data-whole}
use Rattle.gql_resolvers.proofs.laws.data_never_skips.Goals as goal

pub returns : goal.returns
returns c = λ schema T object f arguments. data-whole schema T object f arguments
