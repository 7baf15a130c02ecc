-- What some nodes of a graph reach.
use Rattle.std.specs.Prelude.{◌≡◌, ◌<◌, ℕ, Bool, List, length, Some, slice_get}
use Rattle.std.specs.List.{Contains}
use Rattle.gql_graph.specs.Cycles.{Reaches}
use Rattle.gql_graph.specs.Flooding.{has}
use Rattle.gql_graph.specs.Graph.{Graph}

-- a walk along edges, or none, leads there from one of these nodes
abbrev pub IsReached : Graph → List ℕ → ℕ → Type 0
IsReached g starts v = (s : ℕ) × Contains starts s × Reaches g s v

abbrev pub is_reached : List ℕ → ℕ → Bool
is_reached states v = has 1 (slice_get states v)

-- exactly the nodes that are reached have the state 1
pub record AreReached (g : Graph) (starts states : List ℕ) : Type 0 where
  pub as_many : length states ≡ length g
  pub reached : (v : ℕ) → v < length g → IsReached g starts v → slice_get states v ≡ Some 1
  pub only : (v : ℕ) → slice_get states v ≡ Some 1 → IsReached g starts v
