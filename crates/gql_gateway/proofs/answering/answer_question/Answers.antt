use Rattle.std.proofs.Common.{subst}
use Rattle.gql_engine.specs.AnswerError.{Asks, HasCause, wanted_with}
use Rattle.gql_engine.specs.Service.{asked_of}
use Rattle.jb_io.specs.Stream.{HasFailed}
use Rattle.gql_engine.specs.Wanted.{Members}
use Rattle.gql_gateway.specs.Gateway.{AsksNobody, Fits, IsTooLarge, LacksKey}
use Rattle.gql_gateway.proofs.Calls.{call-answered, call-refused, engine-caused}
use Rattle.gql_gateway.proofs.answering.answer_question.Goals as goal

pub returns-in-Ok-clause-answered : goal.returns-in-Ok-clause-answered
returns-in-Ok-clause-answered g c =
    let call = asked_of c.args.call.now.schema.now c.args.call.now.question in
    call-answered (g.R.Remote.tells c.args.remote.now) (HasFailed (g.R.Remote.faults c.args.remote.now) (g.R.Remote.faults c.answer_wanted.new.remote))
    call c.in-Ok.variables c.in-Ok.ensures.read
    (λ refusal cause. c.causes_exclude_one_another.ensures.lifted call c.in-Ok.variables refusal c.in-Ok.ensures.read cause)
    c.answer_wanted.result c.answer_wanted.ensures.responds

pub returns-in-Ok-clause-refused : goal.returns-in-Ok-clause-refused
returns-in-Ok-clause-refused g c =
    let call = asked_of c.args.call.now.schema.now c.args.call.now.question in
    call-refused (g.R.Remote.tells c.args.remote.now) (HasFailed (g.R.Remote.faults c.args.remote.now) (g.R.Remote.faults c.answer_wanted.new.remote))
    call c.in-Ok.variables c.in-Ok.ensures.read
    (λ refusal cause. c.causes_exclude_one_another.ensures.lifted call c.in-Ok.variables refusal c.in-Ok.ensures.read cause)
    c.answer_wanted.result c.answer_wanted.ensures.responds

pub returns-in-Err-clause-refused : goal.returns-in-Err-clause-refused
returns-in-Err-clause-refused g c =
    let call = asked_of c.args.call.now.schema.now c.args.call.now.question in
    let tells = g.R.Remote.tells c.args.remote.now in
    let Failed : Type 0 = HasFailed (g.R.Remote.faults c.args.remote.now) (g.R.Remote.faults c.args.remote.now) in
    engine-caused (HasCause call) (Asks call IsTooLarge) (Asks call Fits × Failed) (λ key. Asks call (λ wanted. LacksKey tells wanted key)) c.in-Err.refusal
    (c.causes_exclude_one_another.ensures.unread call c.in-Err.refusal c.in-Err.ensures.refused) c.from.result c.from.ensures

pub returns-in-Ok-clause-left : goal.returns-in-Ok-clause-left
returns-in-Ok-clause-left g c = λ nobody.
    let call = asked_of c.args.call.now.schema.now c.args.call.now.question in
    c.answer_wanted.ensures.left
    (subst (λ (members : Members). AsksNobody (wanted_with call members))
    (c.readiness_is_one.ensures.members call.variables nobody.members c.in-Ok.variables nobody.object c.in-Ok.ensures.read) nobody.holds)
