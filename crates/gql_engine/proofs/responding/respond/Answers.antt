use Rattle.std.proofs.Common.{refl, sym}
use Rattle.gql_engine.specs.Wanted.{wanted_over}
use Rattle.gql_engine.proofs.Responses.{responds_over}
use Rattle.gql_engine.proofs.responding.respond.Goals as goal

pub returns-in-Ok : goal.returns-in-Ok
returns-in-Ok g c =
    responds_over g.O.ObjectValue.type_of g.O.ObjectValue.resolves (g.O.ObjectValue.seen c.args.root.now) c.args.wanted.now c.args.steps.now c.respond_by.new.steps c.respond_by.result
    c.args.schema.now c.args.query.now _ _ (sym c.in-Ok.ensures.made.is) refl c.respond_by.ensures

pub returns-in-Err : goal.returns-in-Err
returns-in-Err g c = c.in-Err.ensures.refused (wanted_over c.args.schema.now c.args.query.now c.args.wanted.now) refl
