use Rattle.gql_engine.specs.Request.{asked_in}
use Rattle.gql_engine.specs.Reply.{root_of, wanted_of}
use Rattle.gql_engine.proofs.Replies.{begins_at, responds_as, wanted_is}
use Rattle.gql_engine.proofs.reply.respond_to_request.Goals as goal

pub returns : goal.returns
returns g c =
    let request = c.args.request.now in
    responds_as _ (wanted_of (asked_in request)) (wanted_is request _ c.unwrap_or.result c.new-no_members.ensures c.unwrap_or.ensures)
    c.root-root.result (root_of (asked_in request))
    (begins_at request _ c.unwrap_or-2.result c.new-no_members.ensures c.unwrap_or-2.ensures c.root-root.result c.root-root.ensures) _ _ c.respond.result c.respond.ensures
