use Rattle.gql_document_types.specs.Spreads.{spread_graph}
use Rattle.gql_exec_laws.proofs.Collected.{spreads-ranked, flat-none, flat-field, flat-spread, flat-inline}
use Rattle.gql_exec_laws.proofs.collecting.each_selection_is_collected.Goals as goal

pub returns-clause-nothing : goal.returns-clause-nothing
returns-clause-nothing c s = flat-none s

pub returns-clause-field : goal.returns-clause-field
returns-clause-field c s acyclic it rest =
    let ranked = c.acyclic_graphs_have_ranks.ensures (spread_graph s.fragments) acyclic in
    flat-field s ranked.0 (spreads-ranked s.fragments ranked.0 ranked.1) it rest

pub returns-clause-spread : goal.returns-clause-spread
returns-clause-spread c s acyclic it rest =
    let ranked = c.acyclic_graphs_have_ranks.ensures (spread_graph s.fragments) acyclic in
    flat-spread s ranked.0 (spreads-ranked s.fragments ranked.0 ranked.1) it rest

pub returns-clause-inline : goal.returns-clause-inline
returns-clause-inline c s acyclic it rest =
    let ranked = c.acyclic_graphs_have_ranks.ensures (spread_graph s.fragments) acyclic in
    flat-inline s ranked.0 (spreads-ranked s.fragments ranked.0 ranked.1) it rest
