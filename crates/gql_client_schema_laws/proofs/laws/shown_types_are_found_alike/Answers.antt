-- The types of two schemas.
use Rattle.gql_client_schema_laws.proofs.LookUps.{found_alike}
use Rattle.gql_client_schema_laws.proofs.laws.shown_types_are_found_alike.Goals as goal

pub returns : goal.returns
returns c = found_alike
