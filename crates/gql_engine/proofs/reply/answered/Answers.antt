use Rattle.gql_engine.specs.Request.{asked_in}
use Rattle.gql_engine.specs.Reply.{wanted_of}
use Rattle.gql_engine.specs.Serving.{IsDoneOutput}
use Rattle.gql_engine.proofs.Replies.{answer_done, answer_refused, is_done, is_refused_for, never_told}
use Rattle.gql_engine.proofs.reply.answered.Goals as goal

pub returns-in-Ok-clause-is : goal.returns-in-Ok-clause-is
returns-in-Ok-clause-is g c = answer_done (asked_in c.args.request.now) _ _ c.in-Ok.written c.in-Ok.ensures c.done_with.result c.done_with.ensures

pub returns-in-Ok-clause-done : goal.returns-in-Ok-clause-done
returns-in-Ok-clause-done g c = λ must. is_done _ c.done_with.result c.done_with.ensures

pub returns-in-Ok-clause-caused : goal.returns-in-Ok-clause-caused
returns-in-Ok-clause-caused g c = λ must.
    absurd (c.answers_and_refusals_exclude_one_another.ensures.unanswered (wanted_of (asked_in c.args.request.now)) must.0 c.in-Ok.ensures.answered.ready must.1)

pub returns-in-Err-clause-is : goal.returns-in-Err-clause-is
returns-in-Err-clause-is g c = answer_refused (asked_in c.args.request.now) _ _ c.in-Err.refusal c.in-Err.ensures c.refused_for.result c.refused_for.ensures

pub returns-in-Err-clause-done : goal.returns-in-Err-clause-done
returns-in-Err-clause-done g c = λ must.
    never_told IsDoneOutput c.in-Err.refusal (c.causes_exclude_one_another.ensures.ready (wanted_of (asked_in c.args.request.now)) c.in-Err.refusal must c.in-Err.ensures)
    c.refused_for.result c.refused_for.ensures

pub returns-in-Err-clause-caused : goal.returns-in-Err-clause-caused
returns-in-Err-clause-caused g c = λ must. is_refused_for c.in-Err.refusal c.refused_for.result c.refused_for.ensures
