use Rattle.gql_c.proofs.Schemas.{schema_send, schema_sync}
use Rattle.gql_c.proofs.sending_laws.schemas_cross_threads.Goals as goal

pub returns-clause-send : goal.returns-clause-send
returns-clause-send c = schema_send

pub returns-clause-sync : goal.returns-clause-sync
returns-clause-sync c = schema_sync
