-- Nodes on cycles, and the parts of a graph in which each node reaches each.
use Rattle.std.specs.Prelude.{◌≡◌, ◌<◌, ℕ, Bool, true, List, length, Some, slice_get}
use Rattle.gql_graph.specs.Graph.{Graph, HasEdge}

-- a walk along edges, or none
pub data Reaches (g : Graph) : ℕ → ℕ → Type 0 where
  at_once : {a : ℕ} → Reaches g a a
  along : {a b c : ℕ} → HasEdge g a b → Reaches g b c → Reaches g a c

-- a walk of at least one edge leads back
abbrev pub IsOnCycle : Graph → ℕ → Type 0
IsOnCycle g v = (w : ℕ) × HasEdge g v w × Reaches g w v

abbrev pub ReachesCycle : Graph → ℕ → Type 0
ReachesCycle g v = (u : ℕ) × Reaches g v u × IsOnCycle g u

-- exactly the nodes of which something holds are marked
pub record AreMarked (Holds : ℕ → Type 0) (count : ℕ) (marks : List Bool) : Type 0 where
  pub as_many : length marks ≡ count
  pub marked : (v : ℕ) → v < count → Holds v → slice_get marks v ≡ Some true
  pub only : (v : ℕ) → slice_get marks v ≡ Some true → Holds v
