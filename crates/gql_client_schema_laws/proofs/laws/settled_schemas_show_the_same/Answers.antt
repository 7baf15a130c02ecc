-- What validation leaves.
use Rattle.gql_client_schema_laws.proofs.Settled.{shows_settled}
use Rattle.gql_client_schema_laws.proofs.laws.settled_schemas_show_the_same.Goals as goal

pub returns : goal.returns
returns c = shows_settled
