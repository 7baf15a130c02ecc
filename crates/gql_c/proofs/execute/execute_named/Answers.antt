use Rattle.gql_c.specs.Executions.{executed, unread}
use Rattle.gql_c.proofs.execute.execute_named.Goals as goal

pub returns-in-Ok : goal.returns-in-Ok
returns-in-Ok c = executed c.execute.result c.in-Ok.ensures.1 (rw c.in-Ok.ensures.0 at c.execute.ensures)

pub returns-in-Err : goal.returns-in-Err
returns-in-Err c = unread c.in-Err.ensures
