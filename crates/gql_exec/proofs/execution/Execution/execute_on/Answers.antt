use Rattle.std.proofs.Common.{sym, subst}
use Rattle.gql_coerce.specs.Outcome.{told_as}
use Rattle.gql_coerce.specs.Variables.{coerced_variables}
use Rattle.gql_collect.specs.RequestErrors.{request_error}
use Rattle.gql_exec.specs.Execution.{variables_of, with_variables}
use Rattle.gql_exec.specs.bridge.Output.{AreWritten}
use Rattle.gql_exec.specs.bridge.Running.{IsRun}
use Rattle.gql_exec.proofs.execution.Execution.execute_on.Goals as goal

pub returns-in-Raw : goal.returns-in-Raw
returns-in-Raw g c =
    let self = c.args.self.now in
    let operation = c.args.operation.now in
    subst (λ given. IsRun (AreWritten g.M.Output.are_members c.args.out.now c.execute_given.new.out) self g.O.ObjectValue.type_of g.O.ObjectValue.resolves (g.O.ObjectValue.seen c.args.initial.now)
    c.args.steps.now c.execute_given.new.steps (with_variables operation c.args.root.now (variables_of self.schema.now operation given)) c.execute_given.result)
    (sym c.in-Raw.is) c.execute_given.ensures

pub returns-in-Nothing : goal.returns-in-Nothing
returns-in-Nothing g c =
    let self = c.args.self.now in
    let operation = c.args.operation.now in
    let Are = AreWritten g.M.Output.are_members c.args.out.now c.execute_given-in-Nothing.new.out in
    let x = g.O.ObjectValue.seen c.args.initial.now in
    subst (λ given. IsRun Are self g.O.ObjectValue.type_of g.O.ObjectValue.resolves x c.args.steps.now c.execute_given-in-Nothing.new.steps
    (with_variables operation c.args.root.now (variables_of self.schema.now operation given)) c.execute_given-in-Nothing.result)
    (sym c.in-Nothing.is)
    (subst (λ values. IsRun Are self g.O.ObjectValue.type_of g.O.ObjectValue.resolves x c.args.steps.now c.execute_given-in-Nothing.new.steps
    (with_variables operation c.args.root.now (told_as request_error (coerced_variables self.schema.now.types operation.variables values))) c.execute_given-in-Nothing.result)
    c.new-values.ensures c.execute_given-in-Nothing.ensures)
