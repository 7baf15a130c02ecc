use Rattle.gql_document_types.specs.Spreads.{spread_graph}
use Rattle.gql_collect.proofs.Acyclic.{spreads-ranked}
use Rattle.gql_rounds.specs.Walked.{request_in}
use Rattle.gql_rounds.proofs.Rounds.{found-asked}
use Rattle.gql_rounds.proofs.asking.asks.Goals as goal

pub walked-requires : goal.walked-requires
walked-requires g c =
    let all = c.args.executing.now.request.document.now.fragments in
    let ranked = c.acyclic_graphs_have_ranks.ensures (spread_graph all) c.requires.acyclic in
    record { ranked = (ranked.0, spreads-ranked all ranked.0 ranked.1); hidden = c.requires.hidden }

pub returns : goal.returns
returns g c =
    let e = c.args.executing.now in
    found-asked (request_in e c.args.answers.now) c.args.root_type.now e.operation.now.selection_set.selections c.in_ok-found.found c.len-count.ensures.distinct c.in_ok-found.ensures
