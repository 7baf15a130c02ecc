use Rattle.std.proofs.Common.{refl}
use Rattle.gql_engine.proofs.uncounted.answer_uncounted.Goals as goal

pub answer_alone-requires-clause-made : goal.answer_alone-requires-clause-made
answer_alone-requires-clause-made g c = (c.args.schema.now, c.args.query.now, (refl, refl))

pub returns : goal.returns
returns g c = c.answer_alone.ensures c.args.schema.now c.args.query.now (refl, refl)
