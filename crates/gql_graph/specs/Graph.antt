-- Graphs, and what is reached in one.
use Rattle.std.specs.Prelude.{ℕ, List, [], slice_get}
use Rattle.std.specs.List.{Contains}
use Rattle.std.specs.Option.{unwrap_or}

-- at each node the nodes that its edges lead to
abbrev pub Graph : Type 0
Graph = List (List ℕ)

-- where the edges of a node lead; a number that is no node has none
abbrev pub row : Graph → ℕ → List ℕ
row g a = unwrap_or (slice_get g a) []

abbrev pub HasEdge : Graph → ℕ → ℕ → Type 0
HasEdge g a b = Contains (row g a) b
