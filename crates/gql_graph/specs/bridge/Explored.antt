-- What an exploration of pairs finds, where fields of one class stand for each other.
use Rattle.std.specs.Prelude.{◌≡◌, ◌⊎◌, ◌<◌, ◌+◌, ℕ, Bool, true, if◌then◌else◌, nat_lt, List, [], ◌++◌, length, Some, slice_get}
use Rattle.std.specs.List.{Contains}
use Rattle.std.specs.Option.{unwrap_or}
use Rattle.gql_graph.specs.Graph.{Graph}
use Rattle.gql_graph.specs.Pairs.{Sets, IsField, AreAlike, IsPairIn, IsSet, IsCompared, items_below}
use Rattle.gql_graph.specs.declared.pair.Pair.{Pair}

-- two fields, that of the lower number first
abbrev pub pair_of : Bool → ℕ → ℕ → Pair
pair_of in_full a b =
    if nat_lt a b then record { first = a; second = b; in_full = in_full } else record { first = b; second = a; in_full = in_full }

-- the class of a field, which without an entry is alone in a class
abbrev pub class_of : List ℕ → ℕ → ℕ
class_of classes a = unwrap_or (slice_get classes a) a

abbrev pub AreOfOneClass : List ℕ → ℕ → ℕ → Type 0
AreOfOneClass classes a b = class_of classes a ≡ class_of classes b

-- two fields are of one class, or a pair of their classes is found
pub data IsMet (classes : List ℕ) (found : List Pair) (in_full : Bool) (a b : ℕ) : Type 0 where
  same : AreOfOneClass classes a b → IsMet classes found in_full a b
  other : (c d : ℕ) → AreOfOneClass classes c a → AreOfOneClass classes d b → Contains found (pair_of in_full c d) → IsMet classes found in_full a b

module _ (fragments : Graph) (keys classes : List ℕ) where
  abbrev pub AreMet : List Pair → Bool → List ℕ → Type 0
  AreMet found in_full items = (a b : ℕ) → AreAlike fragments keys items a b → IsMet classes found in_full a b

  -- what looking at a set adds
  pub record IsAdded (in_full : Bool) (items : List ℕ) (old new : List Pair) : Type 0 where
    pub more : List Pair
    pub grown : new ≡ old ++ more
    pub only : (p : Pair) → Contains new p → Contains old p ⊎ (IsPairIn fragments keys items p × (p.in_full ≡ in_full))
    pub met : AreMet new in_full items

  -- what looking at several sets adds
  pub record AreAdded (sets : List (List ℕ)) (old new : List Pair) : Type 0 where
    pub more : List Pair
    pub grown : new ≡ old ++ more
    pub only : (p : Pair) → Contains new p
        → Contains old p ⊎ ((items : List ℕ) × Contains sets items × IsPairIn fragments keys items p × (p.in_full ≡ true))
    pub met : (items : List ℕ) → Contains sets items → AreMet new true items

-- what is found is compared, and what is compared is found or of one class
pub record IsExplored (s : Sets) (classes : List ℕ) (found : List Pair) : Type 0 where
  pub compared : (p : Pair) → Contains found p → IsCompared s p
  pub in_sets : (items : List ℕ) → IsSet s items → AreMet s.fragments s.keys classes found true items
  pub further : (p : Pair) (in_full : Bool) → Contains found p → s.below p ≡ Some in_full
      → AreMet s.fragments s.keys classes found in_full (items_below s p)

-- ---- what is used again for each set

-- no node is marked
abbrev pub AreUnmarked : List ℕ → Type 0
AreUnmarked states = (v x : ℕ) → slice_get states v ≡ Some x → x ≡ 0

abbrev pub AreEmpty : List (List ℕ) → Type 0
AreEmpty buckets = (k : ℕ) (bucket : List ℕ) → slice_get buckets k ≡ Some bucket → bucket ≡ []

-- marks of fragments and fields, and a bucket for each key
pub record IsClean (fragments : Graph) (keys : List ℕ) (key_count : ℕ) (states : List ℕ) (buckets : List (List ℕ)) : Type 0 where
  pub unmarked : AreUnmarked states
  pub nodes : length states ≡ length fragments + length keys
  pub empty : AreEmpty buckets
  pub as_many : length buckets ≡ key_count

-- the keys' numbers are below their count
abbrev pub AreKeys : List ℕ → ℕ → Type 0
AreKeys keys key_count = (a k : ℕ) → slice_get keys a ≡ Some k → k < key_count

-- these are the fields of a set, where there are so many nodes
pub record AreFields (fragments : Graph) (count : ℕ) (items fields : List ℕ) : Type 0 where
  pub all : (a : ℕ) → length fragments + a < count → IsField fragments items a → Contains fields a
  pub only : (a : ℕ) → Contains fields a → IsField fragments items a

abbrev pub HasOneKey : List ℕ → ℕ → ℕ → Type 0
HasOneKey keys a b = (k : ℕ) × (slice_get keys a ≡ Some k) × (slice_get keys b ≡ Some k)

-- what looking at some fields adds
pub record IsPaired (keys classes fields : List ℕ) (key_count : ℕ) (in_full : Bool) (old new : List Pair) : Type 0 where
  pub more : List Pair
  pub grown : new ≡ old ++ more
  pub only : (p : Pair) → Contains new p
      → Contains old p ⊎ (Contains fields p.first × Contains fields p.second
      × (p.first < p.second) × HasOneKey keys p.first p.second × (p.in_full ≡ in_full))
  pub met : (a b k : ℕ) → k < key_count → Contains fields a → Contains fields b → slice_get keys a ≡ Some k → slice_get keys b ≡ Some k
      → IsMet classes new in_full a b
