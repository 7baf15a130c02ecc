use Rattle.gql_engine.specs.Phases.{IsReady}
use Rattle.gql_engine.specs.Wanted.{wanted_over}
use Rattle.gql_engine.proofs.Responses.{cause_of, given_of}
use Rattle.gql_engine.proofs.prepared.Prepared.ready.Goals as goal

pub make_ready-requires : goal.make_ready-requires
make_ready-requires g c = (c.args.self.now.schema, c.args.self.now.query, c.texts-texts.ensures)

pub returns-clause-ready : goal.returns-clause-ready
returns-clause-ready g c =
    let wanted = wanted_over c.args.self.now.schema c.args.self.now.query c.args.wanted.now in
    given_of wanted (IsReady wanted c.args.steps.now c.make_ready.new.steps) c.make_ready.result
    (c.make_ready.ensures c.args.self.now.schema c.args.self.now.query c.texts-texts.ensures)

pub returns-clause-refused : goal.returns-clause-refused
returns-clause-refused g c =
    let wanted = wanted_over c.args.self.now.schema c.args.self.now.query c.args.wanted.now in
    cause_of wanted (IsReady wanted c.args.steps.now c.make_ready.new.steps) c.make_ready.result
    (c.make_ready.ensures c.args.self.now.schema c.args.self.now.query c.texts-texts.ensures)
