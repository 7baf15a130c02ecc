use Rattle.std.proofs.Common.{subst}
use Rattle.gql_exec.specs.Thing.{Thing, type_of_thing}
use Rattle.gql_exec.specs.ThingMeaning.{thing_meaning}
use Rattle.gql_exec.specs.bridge.Output.{AreWritten}
use Rattle.gql_exec.specs.bridge.Running.{RunsOver}
use Rattle.gql_exec.proofs.execution.Execution.execute_introspected.Goals as goal

pub returns : goal.returns
returns g c =
    subst (λ (thing : Thing g.O.ObjectValue.Seen). RunsOver (AreWritten g.M.Output.are_members c.args.out.now c.execute.new.out) c.args.self.now (type_of_thing g.O.ObjectValue.type_of) (thing_meaning g.O.ObjectValue.resolves) thing c.args.steps.now c.execute.new.steps c.execute.result)
    c.root-root.ensures c.execute.ensures
