use Rattle.gql_c.specs.Kinds.{found, unread}
use Rattle.gql_c.proofs.operation_kind.choose_named.Goals as goal

pub returns-in-Ok : goal.returns-in-Ok
returns-in-Ok c = found c.choose.result c.in-Ok.ensures.1 (rw c.in-Ok.ensures.0 at c.choose.ensures)

pub returns-in-Err : goal.returns-in-Err
returns-in-Err c = unread c.in-Err.ensures
