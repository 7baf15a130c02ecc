-- The pairs of a map in the order of their keys' bytes, and the equality and the hash that leave the map's own order aside.
use Rattle.std.specs.Prelude.{ℕ, Bool, ◌&&◌, if◌then◌else◌, List, [], ◌∷◌, ◌++◌}
use Rattle.std.specs.Ordering.{nat_cmp, is_lt}
use Rattle.std.specs.Str.{bytes_eq}
use Rattle.std.specs.Cmp.{IsPartialEquivalence, IsEquivalence, partial_equiv_from_equiv, on_per, on_equiv, and_per, and_equiv}
use Rattle.std.specs.Cmp.Lexicographic.{pointwise, slice_cmp, lists_per, lists_equiv, nat_list_eq_equiv, bytes_decides}
use Rattle.std.specs.Hash.{HashWrites, Alike, on_Alike, and-Alike, items_Alike, same_Alike, str as fed_text, slice as fed_slice}

-- the first text comes before the second, byte by byte
abbrev pub is_below : List ℕ → List ℕ → Bool
is_below a b = is_lt (slice_cmp nat_cmp a b)

module _ {X : Type 0} where
  -- a pair among pairs in order: behind those whose keys come before its own
  abbrev pub put_by_key : List ℕ × X → List (List ℕ × X) → List (List ℕ × X)
  put_by_key e [] = e ∷ []
  put_by_key e (x ∷ xs) = if is_below x.0 e.0 then x ∷ put_by_key e xs else e ∷ x ∷ xs

  -- the same pairs in the order of their keys; of pairs with one key the first stays first
  abbrev pub by_key : List (List ℕ × X) → List (List ℕ × X)
  by_key [] = []
  by_key (e ∷ es) = put_by_key e (by_key es)

  -- the keys are equal, and E finds the values equal
  abbrev pub same_pair : (X → X → Bool) → List ℕ × X → List ℕ × X → Bool
  same_pair E p q = bytes_eq p.0 q.0 && E p.1 q.1

  -- the maps are equal once the order of their pairs is left aside
  abbrev pub same_pairs : (X → X → Bool) → List (List ℕ × X) → List (List ℕ × X) → Bool
  same_pairs E es fs = pointwise (same_pair E) (by_key es) (by_key fs)

  -- what a hasher is fed of a pair: its key's text, then its value
  abbrev pub pair_input : (X → HashWrites) → List ℕ × X → HashWrites
  pair_input F p = fed_text p.0 ++ F p.1

  -- what a hasher is fed of a map: how many pairs there are, and then each in the order of the keys
  abbrev pub pairs_input : (X → HashWrites) → List (List ℕ × X) → HashWrites
  pairs_input F es = fed_slice (pair_input F) (by_key es)

  -- equality of maps is symmetric and transitive where that of values is
  pub same_pairs_per : {E : X → X → Bool} → IsPartialEquivalence E → IsPartialEquivalence (same_pairs E)
  same_pairs_per p =
      on_per by_key (lists_per (and_per (on_per (λ (e : List ℕ × X). e.0) (partial_equiv_from_equiv nat_list_eq_equiv))
      (on_per (λ (e : List ℕ × X). e.1) p)))

  pub same_pairs_equiv : {E : X → X → Bool} → IsEquivalence E → IsEquivalence (same_pairs E)
  same_pairs_equiv e =
      on_equiv by_key (lists_equiv (and_equiv (on_equiv (λ (e : List ℕ × X). e.0) nat_list_eq_equiv) (on_equiv (λ (e : List ℕ × X). e.1) e)))

  -- equal maps feed a hasher alike where equal values do
  pub same_pairs_Alike : {E : X → X → Bool} {F : X → HashWrites} → Alike E F → Alike (same_pairs E) (pairs_input F)
  same_pairs_Alike a =
      on_Alike by_key (items_Alike (and-Alike (on_Alike (λ (e : List ℕ × X). e.0) (same_Alike fed_text bytes_decides))
      (on_Alike (λ (e : List ℕ × X). e.1) a)))
