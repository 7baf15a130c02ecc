use Rattle.gql_c.specs.Schemas.{text, no_text}
use Rattle.gql_c.proofs.schema_new.read_schema.Goals as goal

pub returns-in-Ok : goal.returns-in-Ok
returns-in-Ok c = text c.schema_of_text.result c.in-Ok.ensures.cases.1 (rw c.in-Ok.ensures.cases.0 at c.schema_of_text.ensures)

pub returns-in-Err : goal.returns-in-Err
returns-in-Err c = no_text c.in-Err.ensures.cases.0
