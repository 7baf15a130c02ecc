-- Ranks of the nodes of a graph.
use Rattle.std.specs.Prelude.{◌<◌, ◌≤◌, ℕ, length}
use Rattle.gql_graph.specs.Graph.{Graph, HasEdge}

-- ranks that fall along each edge, and are at most the number of nodes
pub record IsRanked (g : Graph) (rank : ℕ → ℕ) : Type 0 where
  pub falls : (a b : ℕ) → HasEdge g a b → rank b < rank a
  pub bounded : (a : ℕ) → rank a ≤ length g
