-- Fragments that do not lead back to themselves have ranks, and those that have ranks do not lead back to themselves.
use Rattle.std.proofs.Common.{◌<◌, ◌≤◌, ℕ, List, arith}
use Rattle.std.proofs.lemmas.List.{length-map}
use Rattle.gql_document_types.specs.Ranks.{AreRanked}
use Rattle.gql_document_types.specs.Spreads.{AreAcyclic, spread_graph, spreads_in}
use Rattle.gql_document_types.specs.declared.fragment.Fragment.{Fragment}
use Rattle.gql_graph.specs.Cycles.{Reaches, at_once, along}
use Rattle.gql_graph.specs.Graph.{Graph, HasEdge}
use Rattle.gql_graph.specs.Ranks.{IsRanked}

-- ranks of a graph of spreads are those of the fragments
pub spreads-ranked : (all : List Fragment) (rank : ℕ → ℕ) → IsRanked (spread_graph all) rank → AreRanked all rank
spreads-ranked all rank ranked = record { falls = ranked.falls; bounded = λ f. omega (arith, ranked.bounded f, length-map all (spreads_in all)) }

-- along a walk ranks do not rise
walk-falls : (g : Graph) (rank : ℕ → ℕ) → ((a b : ℕ) → HasEdge g a b → rank b < rank a) → {a b : ℕ} → Reaches g a b → rank b ≤ rank a
walk-falls g rank falls {a} {b} at_once = omega arith
walk-falls g rank falls {a} {b} (along {b = x} edge rest) = omega (arith, falls a x edge, walk-falls g rank falls rest)

pub ranked-acyclic : (all : List Fragment) (rank : ℕ → ℕ) → AreRanked all rank → AreAcyclic all
ranked-acyclic all rank ranked v (w, edge, back) =
    absurd (omega (arith, ranked.falls v w edge, walk-falls (spread_graph all) rank ranked.falls back))
