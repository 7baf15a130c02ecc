use Rattle.std.proofs.Common.{refl}
use Rattle.gql_engine.proofs.answering.answer.Goals as goal

pub answer_call-requires : goal.answer_call-requires
answer_call-requires g c = (c.args.schema.now, c.args.query.now, (refl, refl))

pub returns-clause-answered : goal.returns-clause-answered
returns-clause-answered g c = c.answer_call.ensures.answered c.args.schema.now c.args.query.now (refl, refl)

pub returns-clause-refused : goal.returns-clause-refused
returns-clause-refused g c = let given = c.answer_call.ensures.answer c.args.schema.now c.args.query.now (refl, refl) in given.refused

pub returns-clause-exact : goal.returns-clause-exact
returns-clause-exact g c = let given = c.answer_call.ensures.answer c.args.schema.now c.args.query.now (refl, refl) in given.exact

pub returns-clause-valid : goal.returns-clause-valid
returns-clause-valid g c = let given = c.answer_call.ensures.answer c.args.schema.now c.args.query.now (refl, refl) in given.valid
