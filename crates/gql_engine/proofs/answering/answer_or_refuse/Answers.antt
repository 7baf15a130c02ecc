use Rattle.gql_engine.specs.bridge.AnswerError.{call_over}
use Rattle.gql_engine.proofs.Causes.{unread_cause}
use Rattle.gql_engine.proofs.Responses.{answered_from, refused_from}
use Rattle.gql_engine.proofs.answering.answer_or_refuse.Goals as goal

pub returns-in-Ok-clause-answered : goal.returns-in-Ok-clause-answered
returns-in-Ok-clause-answered g c = λ schema query made.
    answered_from g.O.ObjectValue.type_of g.O.ObjectValue.resolves (g.O.ObjectValue.seen c.args.root.now) (call_over schema query c.args.call.now) c.in-Ok.variables c.in-Ok.ensures.read _ _ c.answer_wanted.result
    (c.answer_wanted.ensures schema query made)

pub returns-in-Ok-clause-refused : goal.returns-in-Ok-clause-refused
returns-in-Ok-clause-refused g c = λ schema query made.
    refused_from g.O.ObjectValue.type_of g.O.ObjectValue.resolves (g.O.ObjectValue.seen c.args.root.now) (call_over schema query c.args.call.now) c.in-Ok.variables c.in-Ok.ensures.read _ _ c.answer_wanted.result
    (c.answer_wanted.ensures schema query made)

pub returns-in-Err-clause-refused : goal.returns-in-Err-clause-refused
returns-in-Err-clause-refused g c = λ schema query made. unread_cause (call_over schema query c.args.call.now) c.in-Err.refusal c.in-Err.ensures.refused
