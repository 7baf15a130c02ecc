use Rattle.std.proofs.Common.{arith, ◌≡◌, ◌≢◌, ◌∷◌, [], sym, ap, ◌∙◌, subst, refl}
use Rattle.gql_engine.specs.AnswerError.{Asks as AsksCall}
use Rattle.gql_engine.specs.Service.{asked_of}
use Rattle.gql_rounds.specs.Rounds.{AreAskedOf}
use Rattle.gql_rounds.specs.bridge.Rounds.{FindsAsks}
use Rattle.gql_rounds.proofs.Causes.{is-none, is-some}
use Rattle.gql_rounds.proofs.steps.give_round.Goals as goal

pub answer-requires : goal.answer-requires
answer-requires c =
    let call = asked_of c.args.service.now c.args.question.now in
    let finds = subst (FindsAsks c.args.answers.now call) c.in-Some.is c.requires.found in
    record {
      document = c.requires.document;
      nothing = λ valid. subst (λ asks. AsksCall call (λ wanted. AreAskedOf c.args.answers.now wanted asks)) (is-none c.in-Some.asks (sym c.is_empty.ensures ∙ c.if-is_empty.true)) finds;
    }

pub returns-else-is_empty : goal.returns-else-is_empty
returns-else-is_empty c =
    let call = asked_of c.args.service.now c.args.question.now in
    (is-some c.in-Some.asks (sym c.is_empty.ensures ∙ c.if-is_empty.false), subst (FindsAsks c.args.answers.now call) c.in-Some.is c.requires.found)

pub answer-requires-in-None : goal.answer-requires-in-None
answer-requires-in-None c =
    let call = asked_of c.args.service.now c.args.question.now in
    let none = subst (FindsAsks c.args.answers.now call) c.in-None.is c.requires.found in
    record { document = c.requires.document; nothing = λ valid. absurd (none valid) }
