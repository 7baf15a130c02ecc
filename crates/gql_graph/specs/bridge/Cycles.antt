-- What only private clauses and proofs cite, beside `Cycles`.
use Rattle.std.specs.Prelude.{◌≡◌, ◌≢◌, ◌<◌, ◌+◌, ℕ, Bool, false, List, length, Option, Some, None, slice_get}
use Rattle.std.specs.List.{list_any}
use Rattle.gql_graph.specs.Flooding.{has}
use Rattle.gql_graph.specs.Graph.{Graph, HasEdge}
use Rattle.gql_graph.specs.Cycles.{Reaches}

-- each reaches the other
abbrev pub IsMutual : Graph → ℕ → ℕ → Type 0
IsMutual g a b = Reaches g a b × Reaches g b a

-- the edges of a graph the other way round
pub record IsReverse (g r : Graph) : Type 0 where
  pub as_many : length r ≡ length g
  pub back : (a b : ℕ) → HasEdge g a b → b < length g → HasEdge r b a
  pub only : (a b : ℕ) → HasEdge r b a → HasEdge g a b

-- Each node that has a part's number, which is not 0, shares it with exactly those that it reaches and that reach it.
pub record IsPartitioned (g : Graph) (parts : List ℕ) : Type 0 where
  pub as_many : length parts ≡ length g
  pub same : (u w k : ℕ) → slice_get parts u ≡ Some (k + 2) → slice_get parts w ≡ Some (k + 2) → IsMutual g u w
  pub whole : (u w k : ℕ) → slice_get parts u ≡ Some (k + 2) → IsMutual g u w → slice_get parts w ≡ Some (k + 2)
  pub led : (u k : ℕ) → slice_get parts u ≡ Some (k + 2) → slice_get parts k ≡ Some (k + 2)
  pub known : (u : ℕ) → slice_get parts u ≢ Some 1

abbrev pub HasPart : List ℕ → ℕ → Type 0
HasPart parts u = (k : ℕ) × (slice_get parts u ≡ Some (k + 2))

-- one of these nodes is in the part of a node
abbrev pub in_part : List ℕ → List ℕ → Option ℕ → Bool
in_part parts others None = false
in_part parts others (Some part) = list_any (λ other. has part (slice_get parts other)) others

abbrev pub shares_part : List ℕ → ℕ → List ℕ → Bool
shares_part parts node others = in_part parts others (slice_get parts node)

-- the nodes before a number are marked by what a test says
pub record Told (test : ℕ → Bool) (marks : List Bool) (count : ℕ) : Type 0 where
  pub as_many : length marks ≡ count
  pub each : (v : ℕ) → v < count → slice_get marks v ≡ Some (test v)
