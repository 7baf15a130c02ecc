use Rattle.std.proofs.Common.{Bool, subst}
use Rattle.gql_engine.specs.bridge.Phases.{ready_as}
use Rattle.gql_engine.specs.Wanted.{wanted_over}
use Rattle.gql_response.specs.Reading.{response_read}
use Rattle.gql_response_check.specs.Verdict.{IsVerdictBy}
use Rattle.gql_checker.proofs.checking.check_alone.Goals as goal

pub returns-in-Ok-clause-judged : goal.returns-in-Ok-clause-judged
returns-in-Ok-clause-judged g c =
    let ready = c.in-Ok.ready in
    let is = c.in-Ok.ensures.ready in
    let O = g.O.ObjectValue in
    record {
      ready = ready_as {wanted = wanted_over c.args.prepared.now.schema c.args.prepared.now.query c.args.wanted.now} is;
      judged = subst (λ (introspection : Bool). IsVerdictBy introspection ready.schema.now ready.document.now ready.operation.now ready.variables O.type_of O.resolves
          (O.seen c.args.root.now) (response_read c.args.response.now) c.in_ok-check_ready-in-Ok.field-0) is.introspection c.in_ok-check_ready-in-Ok.ensures;
    }
