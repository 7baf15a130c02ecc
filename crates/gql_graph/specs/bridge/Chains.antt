-- What only private clauses and proofs cite, beside `Chains`.
use Rattle.std.specs.Prelude.{◌≡◌, ◌<◌, ℕ, nat_lt, Bool, true}
use Rattle.std.specs.Prelude.{◌&&◌, not, List, [], ◌∷◌, length, Some, slice_get, if◌then◌else◌}
use Rattle.std.specs.List.{Contains, list_any}
use Rattle.gql_graph.specs.Flooding.{has}
use Rattle.gql_graph.specs.Cycles.{Reaches}
use Rattle.gql_graph.specs.Graph.{Graph}
use Rattle.gql_graph.specs.Chains.{next_names, is_marked}

abbrev pub any_marked : List Bool → List ℕ → Bool
any_marked marks nodes = list_any (is_marked marks) nodes

-- a name is marked by the one list, and another node by the other
abbrev pub is_marked_next : ℕ → List Bool → List Bool → ℕ → Bool
is_marked_next named marks through v = if nat_lt v named then is_marked marks v else is_marked through v

abbrev pub any_next : ℕ → List Bool → List Bool → List ℕ → Bool
any_next named marks through nodes = list_any (is_marked_next named marks through) nodes

-- one of the names that come next is marked
abbrev pub next_mark : Graph → ℕ → List Bool → ℕ → Bool
next_mark g named marks v = any_marked marks (next_names g named v)

-- a chain begins there, and no cycle is reached
abbrev pub is_long : List Bool → List ℕ → ℕ → Bool
is_long chained cyclic v = is_marked chained v && not (has 1 (slice_get cyclic v))

abbrev pub only_if : Bool → ℕ → List ℕ
only_if holds v = if holds then v ∷ [] else []

-- these are the nodes before a number that are marked
pub record AreMarkedNodes (marks : List Bool) (nodes : List ℕ) (count : ℕ) : Type 0 where
  pub listed : (v : ℕ) → v < count → is_marked marks v ≡ true → Contains nodes v
  pub only : (v : ℕ) → Contains nodes v → is_marked marks v ≡ true

-- exactly the nodes that reach a marked one against the edges of a graph have the state 1
pub record AreReaching (r : Graph) (marks : List Bool) (states : List ℕ) : Type 0 where
  pub reached : (u v : ℕ) → is_marked marks u ≡ true → v < length marks → Reaches r u v → slice_get states v ≡ Some 1
  pub only : (v : ℕ) → slice_get states v ≡ Some 1 → (u : ℕ) × (is_marked marks u ≡ true) × Reaches r u v
