use Rattle.gql_document_types.specs.Spreads.{spread_graph}
use Rattle.gql_document_types.proofs.Fixed.{have-contents}
use Rattle.gql_document_types.proofs.laws.acyclic_fragments_have_contents.Goals as goal

pub returns : goal.returns
returns c fragments acyclic =
    let ranked = c.acyclic_graphs_have_ranks.ensures (spread_graph fragments) acyclic in
    have-contents fragments ranked.0 ranked.1
