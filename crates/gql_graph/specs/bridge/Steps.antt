-- The steps of an exploration of pairs.
use Rattle.std.specs.Prelude.{ℕ, ◌-◌, Bool, false, ◌&&◌, ◌==◌, nat_le, if◌then◌else◌, List, [], ◌∷◌, ◌++◌, slice_get, slice_set}
use Rattle.std.specs.Bool.{beq}
use Rattle.std.specs.List.{list_any, flat_map}
use Rattle.std.specs.Option.{option_map_or}
use Rattle.gql_graph.specs.bridge.Explored.{pair_of, class_of}
use Rattle.gql_graph.specs.declared.pair.Pair.{Pair}

-- ---- pairs that are found

abbrev pub is_pair : Pair → Pair → Bool
is_pair p q = (p.first == q.first) && ((p.second == q.second) && beq p.in_full q.in_full)

-- a pair goes last if it is new
abbrev pub inserted : List Pair → Pair → List Pair
inserted seen p = if list_any (is_pair p) seen then seen else seen ++ p ∷ []

-- those of a field and each of the others
abbrev pub all_inserted : Bool → ℕ → List ℕ → List Pair → List Pair
all_inserted in_full a [] seen = seen
all_inserted in_full a (b ∷ bs) seen = all_inserted in_full a bs (inserted seen (pair_of in_full b a))

-- ---- the fields among marked nodes

abbrev pub is_marked : List ℕ → ℕ → Bool
is_marked states v = option_map_or (λ mark. mark == 1) (slice_get states v) false

-- behind the fragments, of which there are so many
abbrev pub field_at : ℕ → List ℕ → ℕ → List ℕ
field_at base states v = if is_marked states v && nat_le base v then (v - base) ∷ [] else []

abbrev pub fields_at : ℕ → List ℕ → List ℕ → List ℕ
fields_at base states nodes = flat_map (field_at base states) nodes

abbrev pub all_reset : List ℕ → List ℕ → List ℕ
all_reset states [] = states
all_reset states (v ∷ vs) = all_reset (slice_set states v 0) vs

-- ---- buckets, one for each response key, with one field of each class

module _ (classes : List ℕ) where
  -- one of these is of the class of the field
  abbrev pub is_covered : ℕ → List ℕ → Bool
  is_covered a bucket = list_any (λ b. class_of classes a == class_of classes b) bucket

  abbrev pub bucket_met : ℕ → List ℕ → List ℕ
  bucket_met a bucket = if is_covered a bucket then bucket else bucket ++ a ∷ []

  abbrev pub seen_met : Bool → ℕ → List ℕ → List Pair → List Pair
  seen_met in_full a bucket seen = if is_covered a bucket then seen else all_inserted in_full a bucket seen

-- the buckets, and the pairs that are found
pub record Meeting : Type 0 where
  pub buckets : List (List ℕ)
  pub seen : List Pair

abbrev pub meeting : List (List ℕ) → List Pair → Meeting
meeting buckets seen = record { buckets = buckets; seen = seen }

module _ (classes : List ℕ) (in_full : Bool) where
  abbrev pub met_in : ℕ → ℕ → Meeting → List ℕ → Meeting
  met_in k a so_far bucket = record {
    buckets = slice_set so_far.buckets k (bucket_met classes a bucket);
    seen = seen_met classes in_full a bucket so_far.seen;
  }

  abbrev pub met_by_key : ℕ → Meeting → ℕ → Meeting
  met_by_key a so_far k = option_map_or (met_in k a so_far) (slice_get so_far.buckets k) so_far

module _ (keys classes : List ℕ) (in_full : Bool) where
  -- a field meets those in the bucket of its key
  abbrev pub met : ℕ → Meeting → Meeting
  met a so_far = option_map_or (met_by_key classes in_full a so_far) (slice_get keys a) so_far

  abbrev pub all_met : List ℕ → Meeting → Meeting
  all_met [] so_far = so_far
  all_met (a ∷ others) so_far = all_met others (met a so_far)

module _ (keys : List ℕ) where
  abbrev pub emptied : List (List ℕ) → ℕ → List (List ℕ)
  emptied buckets a = option_map_or (λ k. slice_set buckets k []) (slice_get keys a) buckets

  abbrev pub all_emptied : List (List ℕ) → List ℕ → List (List ℕ)
  all_emptied buckets [] = buckets
  all_emptied buckets (a ∷ others) = all_emptied (emptied buckets a) others
