use Rattle.std.proofs.Common.{refl, subst, IfOk}
use Rattle.gql_engine.specs.AnswerError.{Call}
use Rattle.gql_engine.specs.Answering.{AnswersWithin, GivesAnswer}
use Rattle.gql_engine.proofs.service.Service.answer.Goals as goal

pub answer_call-requires : goal.answer_call-requires
answer_call-requires g c = (c.args.self.now, c.args.question.now.query.now, (refl, refl))

pub returns-clause-answer : goal.returns-clause-answer
returns-clause-answer g c =
    subst (λ (call : Call). GivesAnswer g.O.ObjectValue.type_of g.O.ObjectValue.resolves (g.O.ObjectValue.seen c.args.root.now) call c.answer_call.result) (c.call.ensures c.args.self.now)
    (c.answer_call.ensures.answer c.args.self.now c.args.question.now.query.now (refl, refl))

pub returns-clause-answered : goal.returns-clause-answered
returns-clause-answered g c =
    subst (λ (call : Call). IfOk c.answer_call.result (AnswersWithin g.O.ObjectValue.type_of g.O.ObjectValue.resolves (g.O.ObjectValue.seen c.args.root.now) call c.args.steps.now c.answer_call.new.steps)) (c.call.ensures c.args.self.now)
    (c.answer_call.ensures.answered c.args.self.now c.args.question.now.query.now (refl, refl))
