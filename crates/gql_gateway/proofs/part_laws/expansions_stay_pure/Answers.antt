use Rattle.gql_collect.proofs.Acyclic.{spreads-ranked}
use Rattle.gql_document_types.specs.Spreads.{spread_graph}
use Rattle.gql_gateway.proofs.PureParts.{pure-expanded}
use Rattle.gql_gateway.proofs.part_laws.expansions_stay_pure.Goals as goal

pub returns : goal.returns
returns c fragments acyclic schema object variables selections pure =
    let have = c.acyclic_fragments_have_contents.ensures fragments acyclic in
    let ranked = c.acyclic_graphs_have_ranks.ensures (spread_graph fragments) acyclic in
    pure-expanded fragments schema object variables have ranked.0 (spreads-ranked fragments ranked.0 ranked.1) selections pure
