use Rattle.gql_c.specs.Steps.{stepped, unread}
use Rattle.gql_c.proofs.step.step_named.Goals as goal

pub returns-in-Ok : goal.returns-in-Ok
returns-in-Ok c = stepped c.step_request.result c.in-Ok.ensures.1 (rw c.in-Ok.ensures.0 at c.step_request.ensures)

pub returns-in-Err : goal.returns-in-Err
returns-in-Err c = unread c.in-Err.ensures
