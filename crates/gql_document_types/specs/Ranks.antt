-- Ranks of fragments: where no fragment leads back to itself, each has a rank above those of the fragments that it spreads.
use Rattle.std.specs.Prelude.{◌<◌, ◌≤◌, ℕ, List, length}
use Rattle.gql_document_types.specs.Spreads.{spread_graph}
use Rattle.gql_document_types.specs.declared.fragment.Fragment.{Fragment}
use Rattle.gql_graph.specs.Graph.{HasEdge}

-- ranks that fall along each spread, and are at most the number of fragments
pub record AreRanked (fragments : List Fragment) (rank : ℕ → ℕ) : Type 0 where
  pub falls : (a b : ℕ) → HasEdge (spread_graph fragments) a b → rank b < rank a
  pub bounded : (a : ℕ) → rank a ≤ length fragments
