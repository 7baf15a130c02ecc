-- What only private clauses and proofs cite, beside `Check`.
use Rattle.std.specs.Prelude.{◌≡◌, ℕ, suc, ◌+◌, ◌<◌, ◌≤◌, max, List, [], ◌∷◌, set, Option, Some, None, slice_get}
use Rattle.gql_collect.specs.Nested.{Nested, nothing, field_then, spread_then, inline_then, Fragments, Place, body_of}
use Rattle.gql_collect.specs.Check.{total}

-- a fragment's depth, none before it was entered, and 0 while it is walked
abbrev pub Memo : Type 0
Memo = List (Option ℕ)

-- with c counted fields on the chain: from the memo m to the memo n, with the depth d, by k looks
pub data Accepts (fragments : Fragments) : ℕ → Memo → Nested → ℕ → Memo → ℕ → Type 0 where
  accept_all : (c : ℕ) (m : Memo) → Accepts fragments c m nothing 0 m 0
  accept_field : {c : ℕ} {m between n : Memo} {rest within : Nested} {d e j k : ℕ} (weight : ℕ) (place : Place) → c + weight < 3
      → Accepts fragments (c + weight) m within d between j → Accepts fragments c between rest e n k
      → Accepts fragments c m (field_then weight place within rest) (max (weight + d) e) n (suc (j + k))
  accept_again : {c : ℕ} {m n : Memo} {rest : Nested} {e k : ℕ} (f : ℕ) (place : Place) (d : ℕ) → slice_get m f ≡ Some (Some d) → c + d < 3
      → Accepts fragments c m rest e n k → Accepts fragments c m (spread_then f place rest) (max d e) n (suc k)
  accept_into : {c : ℕ} {m between n : Memo} {rest : Nested} {d e j k : ℕ} (f : ℕ) (place : Place) → slice_get m f ≡ Some None
      → Accepts fragments c (set m f (Some 0)) (body_of fragments f) d between j → Accepts fragments c (set between f (Some d)) rest e n k
      → Accepts fragments c m (spread_then f place rest) (max d e) n (suc (j + k))
  accept_inline : {c : ℕ} {m between n : Memo} {rest body : Nested} {d e j k : ℕ}
      → Accepts fragments c m body d between j → Accepts fragments c between rest e n k
      → Accepts fragments c m (inline_then body rest) (max d e) n (suc (j + k))

-- it refuses at a place in the text, after k looks
pub data Refuses (fragments : Fragments) : ℕ → Memo → Nested → Place → ℕ → Type 0 where
  refuse_field : {c : ℕ} {m : Memo} {rest within : Nested} (weight : ℕ) (place : Place) → 3 ≤ c + weight
      → Refuses fragments c m (field_then weight place within rest) place 1
  refuse_in_field : {c : ℕ} {m : Memo} {rest within : Nested} {at : Place} {k : ℕ} (weight : ℕ) (place : Place) → c + weight < 3
      → Refuses fragments (c + weight) m within at k → Refuses fragments c m (field_then weight place within rest) at (suc k)
  refuse_after_field : {c : ℕ} {m between : Memo} {rest within : Nested} {d j k : ℕ} {at : Place} (weight : ℕ) (place : Place) → c + weight < 3
      → Accepts fragments (c + weight) m within d between j → Refuses fragments c between rest at k
      → Refuses fragments c m (field_then weight place within rest) at (suc (j + k))
  refuse_again : {c : ℕ} {m : Memo} {rest : Nested} (f : ℕ) (place : Place) (d : ℕ) → slice_get m f ≡ Some (Some d) → 3 ≤ c + d
      → Refuses fragments c m (spread_then f place rest) place 1
  refuse_after_again : {c : ℕ} {m : Memo} {rest : Nested} {at : Place} {k : ℕ} (f : ℕ) (place : Place) (d : ℕ)
      → slice_get m f ≡ Some (Some d) → c + d < 3
      → Refuses fragments c m rest at k → Refuses fragments c m (spread_then f place rest) at (suc k)
  refuse_into : {c : ℕ} {m : Memo} {rest : Nested} {at : Place} {k : ℕ} (f : ℕ) (place : Place) → slice_get m f ≡ Some None
      → Refuses fragments c (set m f (Some 0)) (body_of fragments f) at k → Refuses fragments c m (spread_then f place rest) at (suc k)
  refuse_after_into : {c : ℕ} {m between : Memo} {rest : Nested} {d j k : ℕ} {at : Place} (f : ℕ) (place : Place) → slice_get m f ≡ Some None
      → Accepts fragments c (set m f (Some 0)) (body_of fragments f) d between j → Refuses fragments c (set between f (Some d)) rest at k
      → Refuses fragments c m (spread_then f place rest) at (suc (j + k))
  refuse_inline : {c : ℕ} {m : Memo} {rest body : Nested} {at : Place} {k : ℕ}
      → Refuses fragments c m body at k → Refuses fragments c m (inline_then body rest) at (suc k)
  refuse_after_inline : {c : ℕ} {m between : Memo} {rest body : Nested} {d j k : ℕ} {at : Place}
      → Accepts fragments c m body d between j → Refuses fragments c between rest at k
      → Refuses fragments c m (inline_then body rest) at (suc (j + k))

abbrev pub if_unentered : Option ℕ → ℕ → ℕ
if_unentered None n = n
if_unentered (Some d) n = 0

-- those of the fragments that were not entered
abbrev pub unentered : Fragments → Memo → ℕ
unentered [] m = 0
unentered (fragment ∷ fragments) [] = 0
unentered (fragment ∷ fragments) (o ∷ m) = if_unentered o (total fragment) + unentered fragments m
