use Rattle.std.proofs.Common.{Ok, Err, subst}
use Rattle.gql_engine.specs.Answering.{GivesAnswer}
use Rattle.gql_engine.specs.Service.{asked_of}
use Rattle.gql_rounds.specs.Known.{type_of_entity}
use Rattle.gql_rounds.specs.ToldMeaning.{told}
use Rattle.gql_rounds.proofs.Causes.{answered-nothing}
use Rattle.gql_rounds.proofs.steps.answer.Goals as goal

pub returns-in-Ok : goal.returns-in-Ok
returns-in-Ok c =
    let call = asked_of c.args.service.now c.args.question.now in
    let gives = subst (λ root. GivesAnswer type_of_entity told root call (Ok c.in-Ok.response)) c.root.ensures c.in-Ok.ensures in
    (gives, answered-nothing c.args.answers.now call c.in-Ok.response gives c.requires.nothing)

pub returns-in-Err : goal.returns-in-Err
returns-in-Err c =
    subst (λ root. GivesAnswer type_of_entity told root (asked_of c.args.service.now c.args.question.now) (Err c.in-Err.refusal)) c.root.ensures c.in-Err.ensures
