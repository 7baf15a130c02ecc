use Rattle.std.proofs.Common.{sym, subst}
use Rattle.gql_exec.specs.bridge.Output.{AreWritten}
use Rattle.gql_exec.specs.bridge.Running.{RunsBy}
use Rattle.gql_exec.proofs.execution.Execution.execute_into.Goals as goal

pub returns-then-self : goal.returns-then-self
returns-then-self g c =
    let Are = AreWritten g.M.Output.are_members c.args.out.now c.execute_introspected.new.out in
    subst (λ b. RunsBy Are b c.args.self.now g.O.ObjectValue.type_of g.O.ObjectValue.resolves (g.O.ObjectValue.seen c.args.initial.now) c.args.steps.now c.execute_introspected.new.steps c.execute_introspected.result)
    (sym c.if-self.true) c.execute_introspected.ensures

pub returns-else-self : goal.returns-else-self
returns-else-self g c =
    let Are = AreWritten g.M.Output.are_members c.args.out.now c.execute.new.out in
    subst (λ b. RunsBy Are b c.args.self.now g.O.ObjectValue.type_of g.O.ObjectValue.resolves (g.O.ObjectValue.seen c.args.initial.now) c.args.steps.now c.execute.new.steps c.execute.result)
    (sym c.if-self.false) c.execute.ensures
