use Rattle.gql_engine.proofs.prepared.Prepared.answer_uncounted.Goals as goal

pub answer_alone-requires-clause-made : goal.answer_alone-requires-clause-made
answer_alone-requires-clause-made g c = (c.args.self.now.schema, c.args.self.now.query, c.texts.ensures)

pub returns : goal.returns
returns g c = c.answer_alone.ensures c.args.self.now.schema c.args.self.now.query c.texts.ensures
