use Rattle.gql_c.specs.Queries.{text, no_text}
use Rattle.gql_c.proofs.query_new.read_bytes.Goals as goal

pub returns-in-Ok : goal.returns-in-Ok
returns-in-Ok c = text c.query_of_text.result c.in-Ok.ensures.cases.1 (rw c.in-Ok.ensures.cases.0 at c.query_of_text.ensures)

pub returns-in-Err : goal.returns-in-Err
returns-in-Err c = no_text c.in-Err.ensures.cases.0
