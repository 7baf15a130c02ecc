use Rattle.std.proofs.Common.{refl, sym, subst}
use Rattle.gql_engine.specs.AtHand.{TwoTexts}
use Rattle.gql_engine.specs.Responding.{HasCauseOf}
use Rattle.gql_engine.specs.Wanted.{wanted_over}
use Rattle.jb_io.specs.Stream.{HasFailed}
use Rattle.gql_gateway.specs.bridge.Causes.{JoinsOrCause}
use Rattle.gql_gateway.specs.Gateway.{AsksNobody, Fits, IsTooLarge, LacksKey}
use Rattle.gql_gateway.proofs.Calls.{engine-caused}
use Rattle.gql_gateway.proofs.responding.respond_by.Goals as goal

pub returns-in-Ok-clause-responds : goal.returns-in-Ok-clause-responds
returns-in-Ok-clause-responds g c =
    subst (λ (texts : TwoTexts). JoinsOrCause (g.R.Remote.tells c.args.remote.now)
    (HasFailed (g.R.Remote.faults c.args.remote.now) (g.R.Remote.faults c.respond_prepared.new.remote))
    (wanted_over texts.schema texts.query c.args.wanted.now) c.respond_prepared.result) c.in-Ok.ensures.made.is c.respond_prepared.ensures.responds

pub returns-in-Err-clause-responds : goal.returns-in-Err-clause-responds
returns-in-Err-clause-responds g c =
    let wanted = wanted_over c.args.service.now c.args.query.now c.args.wanted.now in
    let Failed : Type 0 = HasFailed (g.R.Remote.faults c.args.remote.now) (g.R.Remote.faults c.args.remote.now) in
    engine-caused (HasCauseOf wanted) (IsTooLarge wanted) (Fits wanted × Failed) (LacksKey (g.R.Remote.tells c.args.remote.now) wanted)
    c.in-Err.refusal (c.in-Err.ensures.refused wanted refl refl) c.from.result c.from.ensures

pub returns-in-Ok-clause-left : goal.returns-in-Ok-clause-left
returns-in-Ok-clause-left g c = λ nobody.
    c.respond_prepared.ensures.left
    (subst (λ (texts : TwoTexts). AsksNobody (wanted_over texts.schema texts.query c.args.wanted.now)) (sym c.in-Ok.ensures.made.is) nobody)
