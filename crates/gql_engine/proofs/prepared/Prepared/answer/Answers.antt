use Rattle.gql_engine.proofs.prepared.Prepared.answer.Goals as goal

pub answer_call-requires : goal.answer_call-requires
answer_call-requires g c = (c.args.self.now.schema, c.args.self.now.query, c.texts.ensures)

pub returns-clause-answer : goal.returns-clause-answer
returns-clause-answer g c = c.answer_call.ensures.answer c.args.self.now.schema c.args.self.now.query c.texts.ensures

pub returns-clause-answered : goal.returns-clause-answered
returns-clause-answered g c = c.answer_call.ensures.answered c.args.self.now.schema c.args.self.now.query c.texts.ensures
