use Rattle.gql_engine.specs.Request.{asked_in}
use Rattle.gql_engine.specs.Reply.{root_of, wanted_of}
use Rattle.gql_cost.proofs.Lines.{answered-as, begins-at, refused-as, wanted-is}
use Rattle.gql_cost.proofs.command.answer_out_of_data.Goals as goal

pub returns-clause-answered : goal.returns-clause-answered
returns-clause-answered g c =
    let request = c.args.request.now in
    let is =
    wanted-is request c.args.prepared.now.schema c.args.prepared.now.query c.requires.schema c.requires.query _ c.unwrap_or.result c.unwrap_or.ensures c.new-no_members.ensures in
    let begins = begins-at request.root _ c.unwrap_or-2.result c.unwrap_or-2.ensures c.new-no_members.ensures c.root-root.result c.root-root.ensures in
    answered-as c.args.limit.now _ (wanted_of (asked_in request)) is c.root-root.result (root_of (asked_in request)) begins c.respond_within.result
    c.respond_within.ensures.answered

pub returns-clause-refused : goal.returns-clause-refused
returns-clause-refused g c =
    let request = c.args.request.now in
    let is =
    wanted-is request c.args.prepared.now.schema c.args.prepared.now.query c.requires.schema c.requires.query _ c.unwrap_or.result c.unwrap_or.ensures c.new-no_members.ensures in
    let begins = begins-at request.root _ c.unwrap_or-2.result c.unwrap_or-2.ensures c.new-no_members.ensures c.root-root.result c.root-root.ensures in
    refused-as c.args.limit.now _ (wanted_of (asked_in request)) is c.root-root.result (root_of (asked_in request)) begins c.respond_within.result
    c.respond_within.ensures.refused
