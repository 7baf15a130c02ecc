use Rattle.gql_document_types.specs.Spreads.{spread_graph}
use Rattle.gql_collect.specs.View.{fragments_nested}
use Rattle.gql_collect.proofs.Ranked.{fragments-ranked}
use Rattle.gql_exec_laws.proofs.Entering.{enter-fixed}
use Rattle.gql_exec_laws.proofs.collecting.entered_fragments_are_gone_through.Goals as goal

pub returns : goal.returns
returns c fragments acyclic depth_of chain f entered =
    let ranked = c.acyclic_graphs_have_ranks.ensures (spread_graph fragments) acyclic in
    enter-fixed (fragments_nested fragments) ranked.0 (fragments-ranked fragments ranked.0 ranked.1) depth_of chain f entered
