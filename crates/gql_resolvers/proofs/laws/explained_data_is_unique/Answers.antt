use Rattle.std.specs.Prelude.{Contains}
use Rattle.gql_resolvers.proofs.Unique.{unique}
use Rattle.gql_resolvers.proofs.laws.explained_data_is_unique.Goals as goal

pub returns : goal.returns
returns types c = λ w lawful root initial all listed others one other p q. unique w root initial all lawful (Contains listed) (Contains others) one other p q
