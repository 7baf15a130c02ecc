use Rattle.gql_resolvers.proofs.Begins.{field_begins}
use Rattle.gql_resolvers.proofs.laws.errors_begin_with_their_keys.Goals as goal

pub returns : goal.returns
returns types c = λ w lawful depth U x outer g. field_begins w lawful depth U x outer g
