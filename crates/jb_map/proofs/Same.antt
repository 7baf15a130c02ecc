-- One look-up for each key decides the equality of two maps of one length.
use Rattle.std.proofs.Common.{◌≡◌, ℕ, ◌<◌, Bool, true, false, List, length, get_or, sym, ◌∙◌}
use mathlib.Core.Bool.{true≢false}
use Rattle.std.specs.Str.{bytes_eq}
use Rattle.std.specs.List.{IsDistinct}
use Rattle.std.specs.Map.{keys_of, lookup}
use Rattle.std.specs.Option.{option_eq}
use Rattle.std.specs.Cmp.Lexicographic.{as_long, nat_list_eq_equiv}
use Rattle.std.specs.HashMap.Eq.{get_from_hash_map_eq}
use Rattle.std_collections.specs.HashMap.{HashMap}
use Rattle.std_collections.specs.Layout.HashMap.{hash_map}
use Rattle.std_collections.proofs.Entries.{by_answer}
use Rattle.std_collections.proofs.HashMapEq.{equal_by_keys}
use Rattle.jb_map.specs.ByKey.{by_key, same_pair, same_pairs}
use Rattle.jb_map.proofs.Ordered.{Ascending-by_key, lookup-by_key, length-by_key, agree_from_pairs, pairs_from_agree}

module _ {X : Type 0} (E : X → X → Bool) (es fs : List (List ℕ × X)) where
  abbrev agreed : List ℕ → Bool
  agreed k = option_eq E (lookup (bytes_eq k) es) (lookup (bytes_eq k) fs)

  in_order : (k : List ℕ) → option_eq E (lookup (bytes_eq k) (by_key es)) (lookup (bytes_eq k) (by_key fs)) ≡ agreed k
  in_order k i = option_eq E (lookup-by_key k es i) (lookup-by_key k fs i)

  -- maps that differ at a key are not equal
  pub unequal_at : (k : List ℕ) → agreed k ≡ false → false ≡ same_pairs E es fs
  unequal_at k h =
      by_answer (same_pairs E es fs)
      (λ y. absurd (true≢false (sym (agree_from_pairs E (by_key es) (by_key fs) y k) ∙ in_order k ∙ h)))
      (λ n. sym n)

  -- nor are maps of different lengths
  pub unequal_len : (length es ≡ length fs → ⊥) → false ≡ same_pairs E es fs
  unequal_len differ =
      by_answer (same_pairs E es fs)
      (λ y. absurd (differ (sym (length-by_key es) ∙ as_long (same_pair E) (by_key es) (by_key fs) y ∙ length-by_key fs)))
      (λ n. sym n)

  -- maps of one length that agree at each key of the first are equal
  pub equal_from_keys : IsDistinct bytes_eq (keys_of es) → IsDistinct bytes_eq (keys_of fs) → length es ≡ length fs
      → ((i : ℕ) → i < length es → (d : List ℕ) → agreed (get_or (keys_of es) i d) ≡ true) → true ≡ same_pairs E es fs
  equal_from_keys de df long agree =
      let m : HashMap (List ℕ) X ℕ = hash_map es 0 0 in
      let n : HashMap (List ℕ) X ℕ = hash_map fs 0 0 in
      let all = get_from_hash_map_eq bytes_eq E nat_list_eq_equiv m n (sym (equal_by_keys bytes_eq nat_list_eq_equiv E m n de df long agree)) in
      sym (pairs_from_agree E (by_key es) (by_key fs) (Ascending-by_key es de) (Ascending-by_key fs df) (λ k. in_order k ∙ all k))
