use Rattle.std.proofs.Common.{ap, refl, sym}
use Rattle.gql_engine.specs.AtHand.{TwoTexts}
use Rattle.gql_engine.specs.Wanted.{wanted_over}
use Rattle.gql_engine.proofs.Responses.{responds_over}
use Rattle.gql_engine.proofs.responding.respond_by.Goals as goal

pub returns-in-Ok : goal.returns-in-Ok
returns-in-Ok g c =
    responds_over g.O.ObjectValue.type_of g.O.ObjectValue.resolves (g.O.ObjectValue.seen c.args.root.now) c.args.wanted.now c.args.steps.now c.respond_prepared.new.steps c.respond_prepared.result
    c.args.service.now c.args.query.now _ _ (sym (ap (λ (two : TwoTexts). two.schema) c.in-Ok.ensures.made.is))
    (sym (ap (λ (two : TwoTexts). two.query) c.in-Ok.ensures.made.is)) c.respond_prepared.ensures

pub returns-in-Err : goal.returns-in-Err
returns-in-Err g c = c.in-Err.ensures.refused (wanted_over c.args.service.now c.args.query.now c.args.wanted.now) refl refl
