use Rattle.gql_exec.proofs.Planned.{same-ground}
use Rattle.gql_exec.proofs.executing.Executing.planner.Goals as goal

pub returns : goal.returns
returns c = same-ground c.args.self.now.operation.now.selection_set.selections c.document.result.now _ c.args.self.now.request.schema.now c.args.self.now.variables.now c.document.ensures
