use Rattle.std.proofs.Common.{refl}
use Rattle.gql_document_types.specs.Spreads.{spread_graph}
use Rattle.gql_exec_laws.proofs.Deep.{depth-field, depth-spread, depth-inline}
use Rattle.gql_exec_laws.proofs.collecting.each_selection_has_its_depth.Goals as goal

pub returns-clause-nothing : goal.returns-clause-nothing
returns-clause-nothing c fragments = refl

pub returns-clause-field : goal.returns-clause-field
returns-clause-field c fragments it rest = depth-field fragments it rest

pub returns-clause-spread : goal.returns-clause-spread
returns-clause-spread c fragments acyclic it rest =
    let ranked = c.acyclic_graphs_have_ranks.ensures (spread_graph fragments) acyclic in
    depth-spread fragments ranked.0 ranked.1 it rest

pub returns-clause-inline : goal.returns-clause-inline
returns-clause-inline c fragments it rest = depth-inline fragments it rest
