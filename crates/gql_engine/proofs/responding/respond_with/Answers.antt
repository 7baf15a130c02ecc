use Rattle.std.proofs.Common.{◌≡◌}
use Rattle.gql_engine.proofs.Responses.{responds_over}
use Rattle.gql_engine.proofs.responding.respond_with.Goals as goal

pub returns-in-Nothing : goal.returns-in-Nothing
returns-in-Nothing g c = λ schema query is.
    let same : (schema ≡ c.in-Nothing.schema.now) × (query ≡ c.in-Nothing.query.now) = rw c.in-Nothing.is at is in
    responds_over g.O.ObjectValue.type_of g.O.ObjectValue.resolves (g.O.ObjectValue.seen c.args.root.now) c.args.wanted.now c.args.steps.now c.respond.new.steps c.respond.result schema query _ _ same.0 same.1 c.respond.ensures

pub returns-in-Schema : goal.returns-in-Schema
returns-in-Schema g c = λ schema query is.
    let same : (schema ≡ c.in-Schema.service.now) × (query ≡ c.in-Schema.query.now) = rw c.in-Schema.is at is in
    responds_over g.O.ObjectValue.type_of g.O.ObjectValue.resolves (g.O.ObjectValue.seen c.args.root.now) c.args.wanted.now c.args.steps.now c.respond_by.new.steps c.respond_by.result schema query _ _ same.0 same.1 c.respond_by.ensures

pub respond_on-requires : goal.respond_on-requires
respond_on-requires g c = (c.requires.0, c.requires.1, rw c.in-Both.is at c.requires.2)

pub returns-in-Both : goal.returns-in-Both
returns-in-Both g c = λ schema query is. c.respond_on.ensures schema query (rw c.in-Both.is at is)
