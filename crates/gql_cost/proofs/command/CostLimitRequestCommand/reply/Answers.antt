use Rattle.gql_engine.specs.Request.{asked_in}
use Rattle.gql_engine.specs.Reply.{wanted_of}
use Rattle.gql_engine.specs.Serving.{IsDoneOutput}
use Rattle.gql_cost.proofs.Exact.{EngineLaws, wanted-memory, wanted-never}
use Rattle.gql_cost.proofs.Lines.{answer-done, answer-refused, is-done, is-refused, never-told}
use Rattle.gql_cost.proofs.command.CostLimitRequestCommand.reply.Goals as goal

pub returns-in-Ok-clause-is : goal.returns-in-Ok-clause-is
returns-in-Ok-clause-is g c = answer-done c.done_with.result c.args.self.now (asked_in c.args.request.now) c.args.steps.now c.answer_request.new.steps c.in-Ok.response c.in-Ok.ensures.answered c.done_with.ensures

pub returns-in-Ok-clause-done : goal.returns-in-Ok-clause-done
returns-in-Ok-clause-done g c = λ must. is-done c.done_with.result _ c.done_with.ensures

pub returns-in-Ok-clause-caused : goal.returns-in-Ok-clause-caused
returns-in-Ok-clause-caused g c = λ must.
    let laws : EngineLaws =
    record {
      calls = c.causes_exclude_one_another.ensures.calls;
      valid = c.causes_exclude_one_another.ensures.valid;
      wanted = c.causes_exclude_one_another.ensures.wanted;
      ready = c.causes_exclude_one_another.ensures.ready;
      document = c.readiness_is_one.ensures.document;
      operation = c.readiness_is_one.ensures.operation;
      members = c.readiness_is_one.ensures.members;
    } in
    let within = c.in-Ok.ensures.answered in
    absurd (wanted-never laws c.args.self.now (wanted_of (asked_in c.args.request.now)) (record { ready = within.answered.ready; costs = within.costs }) must.refusal must.told must.cause)

pub returns-in-Err-clause-is : goal.returns-in-Err-clause-is
returns-in-Err-clause-is g c = answer-refused c.refusal_line.result c.args.self.now (asked_in c.args.request.now) c.args.steps.now c.answer_request.new.steps c.in-Err.refusal c.in-Err.ensures.refused c.refusal_line.ensures

pub returns-in-Err-clause-done : goal.returns-in-Err-clause-done
returns-in-Err-clause-done g c = λ must.
    let laws : EngineLaws =
    record {
      calls = c.causes_exclude_one_another.ensures.calls;
      valid = c.causes_exclude_one_another.ensures.valid;
      wanted = c.causes_exclude_one_another.ensures.wanted;
      ready = c.causes_exclude_one_another.ensures.ready;
      document = c.readiness_is_one.ensures.document;
      operation = c.readiness_is_one.ensures.operation;
      members = c.readiness_is_one.ensures.members;
    } in
    never-told c.refusal_line.result IsDoneOutput c.in-Err.refusal
    (wanted-memory laws c.args.self.now (wanted_of (asked_in c.args.request.now)) must c.in-Err.refusal c.in-Err.ensures.refused) c.refusal_line.ensures

pub returns-in-Err-clause-caused : goal.returns-in-Err-clause-caused
returns-in-Err-clause-caused g c = λ must. is-refused c.refusal_line.result c.in-Err.refusal c.refusal_line.ensures
