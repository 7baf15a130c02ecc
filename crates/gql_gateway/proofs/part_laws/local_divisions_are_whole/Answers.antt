use Rattle.gql_collect.proofs.Acyclic.{spreads-ranked}
use Rattle.gql_document_types.specs.Spreads.{spread_graph}
use Rattle.gql_gateway.proofs.Locally.{joined-whole, none-missing}
use Rattle.gql_gateway.proofs.part_laws.local_divisions_are_whole.Goals as goal

pub returns-clause-whole : goal.returns-clause-whole
returns-clause-whole g c types resolves x never schema document operation variables divisible response divides =
    let all = document.fragments in
    let have = c.acyclic_fragments_have_contents.ensures all divisible.acyclic in
    let ranked = c.acyclic_graphs_have_ranks.ensures (spread_graph all) divisible.acyclic in
    joined-whole types resolves x never schema document operation variables divisible have ranked.0 (spreads-ranked all ranked.0 ranked.1)
    (c.expansions_have_no_spread.ensures all operation.selection_set.selections) response divides.divided

pub returns-clause-missing : goal.returns-clause-missing
returns-clause-missing g c types resolves x never schema document operation variables divisible key divides =
    let all = document.fragments in
    let have = c.acyclic_fragments_have_contents.ensures all divisible.acyclic in
    let ranked = c.acyclic_graphs_have_ranks.ensures (spread_graph all) divisible.acyclic in
    none-missing types resolves x never schema document operation variables divisible have ranked.0 (spreads-ranked all ranked.0 ranked.1)
    (c.expansions_have_no_spread.ensures all operation.selection_set.selections) key divides.divided
