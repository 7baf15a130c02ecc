use Rattle.std.proofs.Common.{refl, subst}
use Rattle.gql_engine.specs.AnswerError.{Call}
use Rattle.gql_engine.specs.Answering.{GivesAnswer}
use Rattle.gql_engine.proofs.service.Service.answer_uncounted.Goals as goal

pub answer_alone-requires-clause-made : goal.answer_alone-requires-clause-made
answer_alone-requires-clause-made g c = (c.args.self.now, c.args.question.now.query.now, (refl, refl))

pub returns : goal.returns
returns g c =
    subst (λ (call : Call). GivesAnswer g.O.ObjectValue.type_of g.O.ObjectValue.resolves (g.O.ObjectValue.seen c.args.root.now) call c.answer_alone.result) (c.call.ensures c.args.self.now)
    (c.answer_alone.ensures c.args.self.now c.args.question.now.query.now (refl, refl))
