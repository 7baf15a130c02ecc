-- Interfaces of two schemas.
use Rattle.gql_client_schema_laws.proofs.InterfaceRules.{interfaces_faults_alike}
use Rattle.gql_client_schema_laws.proofs.alike_laws.interfaces_stay_implemented.Goals as goal

pub returns : goal.returns
returns c = λ schema again retold. interfaces_faults_alike schema.types again.types retold.types
