use Rattle.gql_engine.specs.Request.{asked_in}
use Rattle.gql_engine.specs.Reply.{wanted_of}
use Rattle.gql_engine.specs.Serving.{IsDoneOutput}
use Rattle.gql_checker.proofs.Exact.{always-explained, never-explained}
use Rattle.gql_checker.proofs.Lines.{is-done, is-other, is-refused, never-told, refusal-told, verdict-told}
use Rattle.gql_checker.proofs.One.{IsOneWay}
use Rattle.gql_checker.proofs.command.CheckCommandRequestCommand.reply.Goals as goal

pub returns-in-Ok-clause-is : goal.returns-in-Ok-clause-is
returns-in-Ok-clause-is g c =
    verdict-told c.verdict_line.result (asked_in c.args.request.now) c.in-Ok.verdict c.in-Ok.ensures.judged c.verdict_line.ensures

pub returns-in-Ok-clause-done : goal.returns-in-Ok-clause-done
returns-in-Ok-clause-done g c = λ must.
    let request = asked_in c.args.request.now in
    let one = c.readiness_is_one.ensures in
    let wanted = wanted_of request in
    let way : IsOneWay wanted =
    record { schema = one.schema wanted; document = one.document wanted; operation = one.operation wanted; variables = one.variables wanted } in
    is-done c.verdict_line.result c.in-Ok.verdict (always-explained request way c.in-Ok.verdict c.in-Ok.ensures.judged must) c.verdict_line.ensures

pub returns-in-Ok-clause-caused : goal.returns-in-Ok-clause-caused
returns-in-Ok-clause-caused g c = λ must.
    let request = asked_in c.args.request.now in
    let one = c.readiness_is_one.ensures in
    let wanted = wanted_of request in
    let way : IsOneWay wanted =
    record { schema = one.schema wanted; document = one.document wanted; operation = one.operation wanted; variables = one.variables wanted } in
    is-other c.verdict_line.result c.in-Ok.verdict
    (never-explained request way (c.causes_exclude_one_another.ensures.ready wanted) must c.in-Ok.verdict c.in-Ok.ensures.judged) c.verdict_line.ensures

pub returns-in-Err-clause-is : goal.returns-in-Err-clause-is
returns-in-Err-clause-is g c =
    refusal-told c.refused_for.result (asked_in c.args.request.now) c.in-Err.refusal c.in-Err.ensures.refused c.refused_for.ensures

pub returns-in-Err-clause-done : goal.returns-in-Err-clause-done
returns-in-Err-clause-done g c = λ must.
    never-told c.refused_for.result IsDoneOutput c.in-Err.refusal
    (c.causes_exclude_one_another.ensures.ready (wanted_of (asked_in c.args.request.now)) c.in-Err.refusal must.ready c.in-Err.ensures.refused) c.refused_for.ensures

pub returns-in-Err-clause-caused : goal.returns-in-Err-clause-caused
returns-in-Err-clause-caused g c = λ must. is-refused c.refused_for.result c.in-Err.refusal c.refused_for.ensures
