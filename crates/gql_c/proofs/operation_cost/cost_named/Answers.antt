use Rattle.gql_c.specs.Costs.{found, unread}
use Rattle.gql_c.proofs.operation_cost.cost_named.Goals as goal

pub returns-in-Ok : goal.returns-in-Ok
returns-in-Ok c = found c.cost_chosen.result c.in-Ok.ensures.1 (rw c.in-Ok.ensures.0 at c.cost_chosen.ensures)

pub returns-in-Err : goal.returns-in-Err
returns-in-Err c = unread c.in-Err.ensures
