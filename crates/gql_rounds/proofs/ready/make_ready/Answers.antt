use Rattle.std.proofs.Common.{subst}
use Rattle.std.proofs.lemmas.Result.{IfOk-weaker}
use Rattle.gql_engine.specs.AnswerError.{IsNoVariables, wanted_with}
use Rattle.gql_engine.specs.Service.{asked_of}
use Rattle.gql_rounds.specs.bridge.Ready.{FindsCalled, FindsReady}
use Rattle.gql_rounds.proofs.Causes.{called, unread}
use Rattle.gql_rounds.proofs.ready.make_ready.Goals as goal

pub returns-in-Ok : goal.returns-in-Ok
returns-in-Ok g c = λ text is_schema.
    let call = asked_of text c.args.question.now in
    let schema = c.args.schema.now in
    let document = c.args.document.now in
    IfOk-weaker c.ready_with.result (FindsReady (wanted_with call c.in-Ok.variables) schema document) (FindsCalled call schema document)
    (called call c.in-Ok.variables schema document (c.readiness_is_one.ensures.members call.variables) c.in-Ok.ensures.read)
    (c.ready_with.ensures text is_schema)

pub returns-in-Err-Variables : goal.returns-in-Err-Variables
returns-in-Err-Variables g c = λ text is_schema.
    let call = asked_of text c.args.question.now in
    unread call c.in-Err-Variables.field-0-0 (c.causes_exclude_one_another.ensures.unread call) (c.causes_exclude_one_another.ensures.valid call)
    (subst (IsNoVariables call.variables) c.in-Err-Variables.field-0-is c.in-Err-Variables.ensures.refused)
