use Rattle.std.proofs.Common.{List, subst}
use Rattle.gql_exec.specs.bridge.Output.{AreWritten}
use Rattle.gql_exec.specs.bridge.Running.{response_of}
use Rattle.gql_exec.specs.bridge.Written.{IsOpenObject}
use Rattle.gql_exec.proofs.Introspecting.{run-answered, run-refused}
use Rattle.gql_exec.proofs.execution.Execution.execute_written.Goals as goal

pub written-requires : goal.written-requires
written-requires g c =
    let executed = c.in-Ok.executed in
    let it = run-answered (AreWritten IsOpenObject c.in_ok-out.out c.execute_into.new.out) c.args.self.now g.O.ObjectValue.type_of g.O.ObjectValue.resolves (g.O.ObjectValue.seen c.args.initial.now)
    c.args.steps.now c.execute_into.new.steps executed c.in-Ok.ensures in
    (it.found, subst (λ (start : List _). AreWritten IsOpenObject start c.execute_into.new.out executed.members it.found) c.in_ok-out.ensures it.are)

pub returns-in_ok-written-in-Ok : goal.returns-in_ok-written-in-Ok
returns-in_ok-written-in-Ok g c =
    let executed = c.in-Ok.executed in
    let it = run-answered (AreWritten IsOpenObject c.in_ok-out.out c.execute_into.new.out) c.args.self.now g.O.ObjectValue.type_of g.O.ObjectValue.resolves (g.O.ObjectValue.seen c.args.initial.now)
    c.args.steps.now c.execute_into.new.steps executed c.in-Ok.ensures in
    let are = subst (λ (start : List _). AreWritten IsOpenObject start c.execute_into.new.out executed.members it.found) c.in_ok-out.ensures it.are in
    record {
      response = response_of executed it.found;
      printed = record { errors = c.in_ok-written-in-Ok.ensures.errors; text = c.in_ok-written-in-Ok.ensures.«data» it.found are };
      answer = it.hold.0;
      looks = it.hold.1;
    }

pub returns-in-Err : goal.returns-in-Err
returns-in-Err g c =
    run-refused (AreWritten IsOpenObject c.in_ok-out.out c.execute_into.new.out) c.args.self.now g.O.ObjectValue.type_of g.O.ObjectValue.resolves (g.O.ObjectValue.seen c.args.initial.now)
    c.args.steps.now c.execute_into.new.steps c.in-Err.refused c.in-Err.ensures
