use Rattle.gql_cost.proofs.answering.answer_asked.Goals as goal

pub returns-clause-answered : goal.returns-clause-answered
returns-clause-answered g c = rw c.requires at c.respond_within.ensures.answered

pub returns-clause-refused : goal.returns-clause-refused
returns-clause-refused g c = rw c.requires at c.respond_within.ensures.refused

pub returns-clause-unexecuted : goal.returns-clause-unexecuted
returns-clause-unexecuted g c = rw c.requires at c.respond_within.ensures.unexecuted
