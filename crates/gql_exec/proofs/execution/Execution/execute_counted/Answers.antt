use Rattle.std.proofs.Common.{List, Option, Ok, subst}
use Rattle.gql_resolvers.specs.Execute.{Member}
use Rattle.gql_exec.specs.Execution.{Answers, Counts}
use Rattle.gql_exec.specs.bridge.Running.{response_of}
use Rattle.gql_exec.proofs.Introspecting.{run-answered, run-refused, refused-counts, tree-found}
use Rattle.gql_exec.proofs.execution.Execution.execute_counted.Goals as goal

pub returns-in-Ok : goal.returns-in-Ok
returns-in-Ok g c =
    let types = g.O.ObjectValue.type_of in
    let resolves = g.O.ObjectValue.resolves in
    let x = g.O.ObjectValue.seen c.args.initial.now in
    let executed = c.in-Ok.executed in
    let it = run-answered _ c.args.self.now types resolves x c.args.steps.now c.execute_into.new.steps executed c.in-Ok.ensures in
    let same = tree-found _ _ executed.members it.found it.are in
    record {
      answer = subst (λ (found : Option (List Member)). Answers c.args.self.now types resolves x (Ok (response_of executed found))) same it.hold.0;
      looks = subst (λ (found : Option (List Member)). Counts c.args.self.now types resolves x c.args.steps.now c.execute_into.new.steps (Ok (response_of executed found))) same it.hold.1;
    }

pub returns-in-Err : goal.returns-in-Err
returns-in-Err g c =
    let types = g.O.ObjectValue.type_of in
    let resolves = g.O.ObjectValue.resolves in
    let x = g.O.ObjectValue.seen c.args.initial.now in
    record {
      answer = run-refused _ c.args.self.now types resolves x c.args.steps.now c.execute_into.new.steps c.in-Err.refused c.in-Err.ensures;
      looks = refused-counts c.args.self.now types resolves x c.args.steps.now c.execute_into.new.steps c.in-Err.refused;
    }
