use Rattle.gql_engine.specs.Wanted.{wanted_over}
use Rattle.gql_cost.proofs.responding.respond_within.Goals as goal

pub respond_ready-requires : goal.respond_ready-requires
respond_ready-requires g c = (wanted_over c.args.prepared.now.schema c.args.prepared.now.query c.args.wanted.now, c.args.steps.now, c.ready.new.steps, c.in-Ok.ensures.ready)

pub returns-in-Ok-clause-answered : goal.returns-in-Ok-clause-answered
returns-in-Ok-clause-answered g c = c.respond_ready.ensures.answered (wanted_over c.args.prepared.now.schema c.args.prepared.now.query c.args.wanted.now) _ _ c.in-Ok.ensures.ready

pub returns-in-Ok-clause-refused : goal.returns-in-Ok-clause-refused
returns-in-Ok-clause-refused g c = c.respond_ready.ensures.refused (wanted_over c.args.prepared.now.schema c.args.prepared.now.query c.args.wanted.now) _ _ c.in-Ok.ensures.ready

pub returns-in-Ok-clause-unexecuted : goal.returns-in-Ok-clause-unexecuted
returns-in-Ok-clause-unexecuted g c = c.respond_ready.ensures.unexecuted (wanted_over c.args.prepared.now.schema c.args.prepared.now.query c.args.wanted.now) _ c.in-Ok.ensures.ready
