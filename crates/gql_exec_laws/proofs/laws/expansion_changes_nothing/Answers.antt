use Rattle.std.proofs.Common.{arith, ℕ, List, [], ◌∷◌}
use Rattle.std.proofs.lemmas.List.{length-map}
use Rattle.gql_document_types.specs.Spreads.{spreads_in, spread_graph}
use Rattle.gql_document_types.specs.declared.fragment.Fragment.{Fragment}
use Rattle.gql_document_types.specs.Ranks.{AreRanked}
use Rattle.gql_graph.specs.Ranks.{IsRanked}
use Rattle.gql_exec_laws.proofs.Runs.{run-same, executed-alike}
use Rattle.gql_exec_laws.proofs.laws.expansion_changes_nothing.Goals as goal

-- ranks of a graph of spreads are those of the fragments
ranks-of : (all : List Fragment) (rank : ℕ → ℕ) → IsRanked (spread_graph all) rank → AreRanked all rank
ranks-of all rank ranked = record { falls = ranked.falls; bounded = λ f. omega (arith, ranked.bounded f, length-map all (spreads_in all)) }

pub returns-clause-made : goal.returns-clause-made
returns-clause-made types c r others acyclic free depth U x outer selections =
    let have = c.acyclic_fragments_have_contents.ensures r.fragments acyclic in
    let ranked = c.acyclic_graphs_have_ranks.ensures (spread_graph r.fragments) acyclic in
    let ordered = c.acyclic_graphs_have_ranks.ensures (spread_graph others) free in
    run-same r others have ranked.0 (ranks-of r.fragments ranked.0 ranked.1) ordered.0 (ranks-of others ordered.0 ordered.1) depth U x outer (selections ∷ [])

pub returns-clause-response : goal.returns-clause-response
returns-clause-response types c r others acyclic free root initial selections response =
    let have = c.acyclic_fragments_have_contents.ensures r.fragments acyclic in
    let ranked = c.acyclic_graphs_have_ranks.ensures (spread_graph r.fragments) acyclic in
    let ordered = c.acyclic_graphs_have_ranks.ensures (spread_graph others) free in
    executed-alike r others have ranked.0 (ranks-of r.fragments ranked.0 ranked.1) ordered.0 (ranks-of others ordered.0 ordered.1) root initial selections response
