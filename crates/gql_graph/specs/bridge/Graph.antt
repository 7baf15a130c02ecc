-- What only private clauses and proofs cite, beside `Graph`.
use Rattle.std.specs.Prelude.{◌≡◌, ◌⊎◌, ℕ, List, Some, slice_get}
use Rattle.std.specs.List.{Contains}
use Rattle.gql_graph.specs.Graph.{Graph, HasEdge}

-- a walk along edges, all of whose nodes are marked so
pub data WalkOver (g : Graph) (states : List ℕ) (mark : ℕ) : ℕ → ℕ → Type 0 where
  here : {a : ℕ} → slice_get states a ≡ Some mark → WalkOver g states mark a a
  step : {a b c : ℕ} → slice_get states a ≡ Some mark → HasEdge g a b → WalkOver g states mark b c → WalkOver g states mark a c

-- a walk from one of these nodes
abbrev pub IsReachedOver : Graph → List ℕ → ℕ → List ℕ → ℕ → Type 0
IsReachedOver g states mark starts v = (s : ℕ) × Contains starts s × WalkOver g states mark s v

-- What a flood leaves: each node that is reached over nodes of the old mark has the new one and is told, and no mark else changes.
pub record IsFlooded (g : Graph) (old new starts : List ℕ) (from to : ℕ) (told : List ℕ) : Type 0 where
  pub reached : (v : ℕ) → IsReachedOver g old from starts v → slice_get new v ≡ Some to
  pub only : (v : ℕ) → (slice_get new v ≡ slice_get old v) ⊎ (IsReachedOver g old from starts v × Contains told v × (slice_get new v ≡ Some to))
