-- Graphs in which no edge leads on from where another leads.
use Rattle.std.specs.Prelude.{ℕ, ◌==◌, Bool, length}
use Rattle.std.specs.List.{list_all}
use Rattle.gql_graph.specs.Graph.{Graph, row}

module _ (g : Graph) where
  -- no edge leads on from the node
  abbrev pub is_end : ℕ → Bool
  is_end v = length (row g v) == 0

  -- each edge leads to such a node
  abbrev pub is_flat : Bool
  is_flat = list_all (list_all is_end) g
