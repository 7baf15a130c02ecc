use Rattle.std.proofs.Common.{refl}
use Rattle.gql_engine.specs.Request.{asked_in}
use Rattle.gql_resolvers.proofs.DataSkips.{data-whole}
use Rattle.gql_engine.specs.Reply.{root_of}
use Rattle.gql_engine.specs.Serving.{IsDoneOutput}
use Rattle.gql_gateway.specs.Command.{wanted_here}
use Rattle.gql_gateway.proofs.Exact.{EngineLaws, local-memory, local-never}
use Rattle.gql_gateway.proofs.Lines.{answer-done, answer-refused, is-done, is-refused, never-told}
use Rattle.gql_gateway.proofs.command.GatewayRequestCommand.reply.Goals as goal

pub returns-in-Ok-clause-is : goal.returns-in-Ok-clause-is
returns-in-Ok-clause-is g c =
    let request = asked_in c.args.request.now in
    answer-done c.done_with.result request c.in-Ok.response c.in-Ok.ensures.answered
    (λ other answered has.
    c.local_gateways_change_nothing.ensures.whole data-whole (root_of request) (wanted_here request) refl c.in-Ok.response other c.in-Ok.ensures.answered answered has)
    c.done_with.ensures

pub returns-in-Ok-clause-done : goal.returns-in-Ok-clause-done
returns-in-Ok-clause-done g c = λ must. is-done c.done_with.result _ c.done_with.ensures

pub returns-in-Ok-clause-caused : goal.returns-in-Ok-clause-caused
returns-in-Ok-clause-caused g c = λ must.
    let laws : EngineLaws =
    record {
      calls = c.causes_exclude_one_another.ensures.calls;
      valid = c.causes_exclude_one_another.ensures.valid;
      wanted = c.causes_exclude_one_another.ensures.wanted;
      ready = c.causes_exclude_one_another.ensures.ready;
      document = c.readiness_is_one.ensures.document;
      operation = c.readiness_is_one.ensures.operation;
      members = c.readiness_is_one.ensures.members;
    } in
    let joined = c.in-Ok.ensures.answered in
    absurd (local-never laws (wanted_here (asked_in c.args.request.now)) (record { ready = joined.ready; within = joined.divides.within }) must.refusal must.told must.cause)

pub returns-in-Err-clause-is : goal.returns-in-Err-clause-is
returns-in-Err-clause-is g c = answer-refused c.refusal_line.result (asked_in c.args.request.now) c.in-Err.refusal c.in-Err.ensures.refused c.refusal_line.ensures

pub returns-in-Err-clause-done : goal.returns-in-Err-clause-done
returns-in-Err-clause-done g c = λ must.
    let laws : EngineLaws =
    record {
      calls = c.causes_exclude_one_another.ensures.calls;
      valid = c.causes_exclude_one_another.ensures.valid;
      wanted = c.causes_exclude_one_another.ensures.wanted;
      ready = c.causes_exclude_one_another.ensures.ready;
      document = c.readiness_is_one.ensures.document;
      operation = c.readiness_is_one.ensures.operation;
      members = c.readiness_is_one.ensures.members;
    } in
    never-told c.refusal_line.result IsDoneOutput c.in-Err.refusal
    (local-memory laws (wanted_here (asked_in c.args.request.now)) must c.in-Err.refusal c.in-Err.ensures.refused) c.refusal_line.ensures

pub returns-in-Err-clause-caused : goal.returns-in-Err-clause-caused
returns-in-Err-clause-caused g c = λ must. is-refused c.refusal_line.result c.in-Err.refusal c.refusal_line.ensures
