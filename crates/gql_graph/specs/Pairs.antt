-- Pairs of fields of one response key in one set of selections, and in the sets below such pairs: FieldsInSetCanMerge in section
-- 5.3.2 of GraphQL October 2021. Fields and fragments are told by numbers here.
use Rattle.std.specs.Prelude.{◌≡◌, ◌<◌, ◌+◌, ℕ, Bool, true, List, ◌++◌, length, Option, Some, slice_get}
use Rattle.std.specs.List.{Contains}
use Rattle.gql_graph.specs.Cycles.{Reaches}
use Rattle.gql_graph.specs.Graph.{Graph}
use Rattle.gql_graph.specs.declared.pair.Pair.{Pair}

-- A field of a set, with each fragment entered. A set selects fragments by their numbers, and fields by their own behind those of all
-- fragments; the graph has what each fragment selects.
abbrev pub IsField : Graph → List ℕ → ℕ → Type 0
IsField fragments items a = (i : ℕ) × Contains items i × Reaches fragments i (length fragments + a)

-- two fields of a set that have one response key, which is told by a number
pub record AreAlike (fragments : Graph) (keys items : List ℕ) (a b : ℕ) : Type 0 where
  pub first : IsField fragments items a
  pub second : IsField fragments items b
  pub key : ℕ
  pub first_key : slice_get keys a ≡ Some key
  pub second_key : slice_get keys b ≡ Some key

-- two such fields, the one of the lower number first
pub record IsPairIn (fragments : Graph) (keys items : List ℕ) (p : Pair) : Type 0 where
  pub alike : AreAlike fragments keys items p.first p.second
  pub ordered : p.first < p.second

-- the sets of a document
pub record Sets : Type 0 where
  -- what each fragment selects, and each operation
  pub fragments : Graph
  pub operations : List (List ℕ)
  -- what is selected in the field of a number
  pub items : ℕ → List ℕ
  -- the numbers of the fields' response keys
  pub keys : List ℕ
  -- What is below a pair: nothing where it breaks the rule, and else pairs that are compared in full or by type alone.
  pub below : Pair → Option Bool

module _ (s : Sets) where
  -- the sets of operations, fragments and fields; the fields of an inline fragment are among those of the set around it
  pub data IsSet : List ℕ → Type 0 where
    of_operation : {items : List ℕ} → Contains s.operations items → IsSet items
    of_fragment : {items : List ℕ} → Contains s.fragments items → IsSet items
    of_field : (a : ℕ) → a < length s.keys → IsSet (s.items a)

  -- what the fields of a pair select, taken together
  abbrev pub items_below : Pair → List ℕ
  items_below p = s.items p.first ++ s.items p.second

  -- The compared pairs: in full those of the fields of each set, and those of the fields of both sets below a compared pair, taken
  -- together.
  pub data IsCompared : Pair → Type 0 where
    in_set : {items : List ℕ} {p : Pair} → IsSet items → IsPairIn s.fragments s.keys items p → p.in_full ≡ true → IsCompared p
    below : {above p : Pair} → IsCompared above → s.below above ≡ Some p.in_full → IsPairIn s.fragments s.keys (items_below above) p → IsCompared p
