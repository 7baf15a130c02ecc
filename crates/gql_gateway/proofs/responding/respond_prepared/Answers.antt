use Rattle.gql_engine.specs.Responding.{HasCauseOf}
use Rattle.gql_engine.specs.Wanted.{wanted_over}
use Rattle.jb_io.specs.Stream.{HasFailed}
use Rattle.gql_gateway.specs.Gateway.{Fits, IsTooLarge, LacksKey}
use Rattle.gql_gateway.proofs.Calls.{engine-caused}
use Rattle.gql_gateway.proofs.responding.respond_prepared.Goals as goal

pub respond_ready-requires : goal.respond_ready-requires
respond_ready-requires g c = (wanted_over c.args.prepared.now.schema c.args.prepared.now.query c.args.wanted.now, c.args.steps.now, c.ready.new.steps, c.in-Ok.ensures.ready)

pub returns-in-Ok-clause-responds : goal.returns-in-Ok-clause-responds
returns-in-Ok-clause-responds g c =
    c.respond_ready.ensures.responds (wanted_over c.args.prepared.now.schema c.args.prepared.now.query c.args.wanted.now) _ _ c.in-Ok.ensures.ready

pub returns-in-Err-clause-responds : goal.returns-in-Err-clause-responds
returns-in-Err-clause-responds g c =
    let wanted = wanted_over c.args.prepared.now.schema c.args.prepared.now.query c.args.wanted.now in
    let Failed : Type 0 = HasFailed (g.R.Remote.faults c.args.remote.now) (g.R.Remote.faults c.args.remote.now) in
    engine-caused (HasCauseOf wanted) (IsTooLarge wanted) (Fits wanted × Failed) (LacksKey (g.R.Remote.tells c.args.remote.now) wanted)
    c.in-Err.refusal c.in-Err.ensures.refused c.from.result c.from.ensures

pub returns-in-Ok-clause-left : goal.returns-in-Ok-clause-left
returns-in-Ok-clause-left g c =
    c.respond_ready.ensures.left (wanted_over c.args.prepared.now.schema c.args.prepared.now.query c.args.wanted.now) _ _ c.in-Ok.ensures.ready
