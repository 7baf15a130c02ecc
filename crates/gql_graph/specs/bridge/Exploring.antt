-- An exploration of pairs on its way.
use Rattle.std.specs.Prelude.{◌≡◌, ◌⊎◌, ℕ, zero, suc, Bool, true, List, [], ◌∷◌, ◌++◌, map, length, Option, Some}
use Rattle.std.specs.List.{Contains, range_with_len}
use Rattle.gql_graph.specs.bridge.Explored.{IsClean, AreMet}
use Rattle.gql_graph.specs.Pairs.{Sets, IsSet, IsPairIn, IsCompared, items_below}
use Rattle.gql_graph.specs.declared.exploration.DocumentSets.{DocumentSets}
use Rattle.gql_graph.specs.declared.pair.Pair.{Pair}

-- a document's sets, by what is selected in each field and what is below each pair
abbrev pub sets_by : (ℕ → List ℕ) → (Pair → Option Bool) → DocumentSets → Sets
sets_by items below held = record {
  fragments = held.fragments.now;
  operations = held.operations.now;
  items = items;
  keys = held.keys.now;
  below = below;
}

abbrev pub IsCleanFor : DocumentSets → List ℕ → List (List ℕ) → Type 0
IsCleanFor held states buckets = IsClean held.fragments.now held.keys.now held.key_count states buckets

abbrev pub no_buckets : ℕ → List (List ℕ)
no_buckets zero = []
no_buckets (suc count) = no_buckets count ++ [] ∷ []

-- what is selected in each field
abbrev pub field_sets : (ℕ → List ℕ) → List ℕ → List (List ℕ)
field_sets items keys = map items (range_with_len 0 (length keys))

-- the pairs of all sets are found
pub record IsBegun (s : Sets) (classes : List ℕ) (found : List Pair) : Type 0 where
  pub compared : (p : Pair) → Contains found p → IsCompared s p
  pub in_sets : (items : List ℕ) → IsSet s items → AreMet s.fragments s.keys classes found true items

-- what looking below a pair adds
pub record IsGoneBelow (s : Sets) (classes : List ℕ) (above : Pair) (old new : List Pair) : Type 0 where
  pub more : List Pair
  pub grown : new ≡ old ++ more
  pub only : (p : Pair) → Contains new p
      → Contains old p ⊎ ((s.below above ≡ Some p.in_full) × IsPairIn s.fragments s.keys (items_below s above) p)
  pub met : (in_full : Bool) → s.below above ≡ Some in_full → AreMet s.fragments s.keys classes new in_full (items_below s above)
