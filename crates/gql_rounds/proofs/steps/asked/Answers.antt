use Rattle.std.proofs.Common.{refl, subst}
use Rattle.gql_engine.specs.Service.{asked_of}
use Rattle.gql_rounds.specs.bridge.Ready.{FindsCalled}
use Rattle.gql_rounds.proofs.Causes.{asked-of}
use Rattle.gql_rounds.proofs.steps.asked.Goals as goal

pub make_ready-requires : goal.make_ready-requires
make_ready-requires g c = c.requires c.schema-schema.result.now c.schema-schema.ensures

pub returns-in_default : goal.returns-in_default
returns-in_default g c =
    subst (FindsCalled (asked_of c.args.service.now c.args.question.now) c.schema-schema.result.now c.args.document.now) c.in_default.is
    (c.in_ok-found.ensures c.args.service.now c.schema-schema.ensures)

pub asks-requires : goal.asks-requires
asks-requires g c = record {
  acyclic = c.valid_documents_run.ensures.acyclic c.schema-schema.result.now c.args.question.now.query.now c.args.document.now (c.requires c.schema-schema.result.now c.schema-schema.ensures);
  hidden = refl;
}

pub returns : goal.returns
returns g c =
    let schema = c.schema-schema.result.now in
    let document = c.args.document.now in
    let call = asked_of c.args.service.now c.args.question.now in
    asked-of c.args.answers.now call schema document c.in-Some.ready c.in_ok-wanted.wanted c.schema-schema.ensures (c.requires schema c.schema-schema.ensures)
    (subst (FindsCalled call schema document) c.in-Some.is (c.in_ok-found.ensures c.args.service.now c.schema-schema.ensures)) c.in_ok-wanted.ensures
