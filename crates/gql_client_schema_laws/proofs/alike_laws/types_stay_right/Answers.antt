-- Types of two schemas.
use Rattle.gql_client_schema_laws.proofs.PartRules.{types_alike}
use Rattle.gql_client_schema_laws.proofs.alike_laws.types_stay_right.Goals as goal

pub returns : goal.returns
returns c = types_alike
