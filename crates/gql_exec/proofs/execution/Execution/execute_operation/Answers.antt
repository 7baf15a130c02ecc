use Rattle.std.proofs.Common.{rules, ◌≡◌, Some, subst}
use Rattle.gql_schema_types.specs.Schemas.{object_of}
use Rattle.gql_exec.specs.Execution.{on_root}
use Rattle.gql_exec.specs.bridge.Output.{AreWritten}
use Rattle.gql_exec.specs.bridge.Running.{IsRun}
use Rattle.gql_exec.proofs.execution.Execution.execute_operation.Goals as goal

pub returns-in-Some : goal.returns-in-Some
returns-in-Some g c =
    let self = c.args.self.now in
    let operation = c.args.operation.now in
    let found : Some c.in-Some.root.now ≡ object_of self.schema.now operation.selection_set.ty.text = search rules in
    subst (λ root. IsRun (AreWritten g.M.Output.are_members c.args.out.now c.execute_on.new.out) self g.O.ObjectValue.type_of g.O.ObjectValue.resolves (g.O.ObjectValue.seen c.args.initial.now)
    c.args.steps.now c.execute_on.new.steps (on_root self.schema.now self.given operation root) c.execute_on.result)
    found c.execute_on.ensures
