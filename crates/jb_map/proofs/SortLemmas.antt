-- Pairs that a sort has put into the order of their keys.
use Rattle.std.proofs.Common.{◌≡◌, ℕ, suc, ◌+◌, ◌<◌, Bool, true, false, Some, None, List, [], ◌∷◌, length, get_or, zip, refl, sym, ap, subst, ◌∙◌, arith}
use mathlib.Core.Bool.{true≢false}
use Rattle.std.specs.Str.{bytes_eq}
use Rattle.std.specs.List.{IsDistinct}
use Rattle.std.specs.List.Sorted.{IsPermutation, IsSortedBy}
use Rattle.std.specs.Map.{keys_of, lookup}
use Rattle.std.specs.Cmp.{IsStrictWeakOrder}
use Rattle.std.specs.Cmp.Lexicographic.{nat_list_eq_equiv}
use Rattle.std.proofs.lemmas.List.{length-map}
use Rattle.std.proofs.lemmas.List.Sorted.{IsPermutation-map}
use Rattle.std.proofs.lemmas.Map.Keys.{apart_from_distinct}
use Rattle.indexmap.proofs.MapLemmas.{distinct_permutation, lookup_permutation, sorted_keys}
use Rattle.std_collections.proofs.Zip.{keys_of-zip}
use Rattle.jb_map.specs.ByKey.{is_below, by_key}
use Rattle.jb_map.proofs.TextOrder.{below_trans, below_from_rest, below_one_way, same_text, by_order}
use Rattle.jb_map.proofs.Ordered.{Ascending, Ascending-by_key, AllKeys-mono, None-above, Some-first, skip_first, lookup-by_key}

-- the order of texts is one for sorts
not_below_chain : (a b c : List ℕ) → is_below a b ≡ false → is_below b c ≡ false → is_below a c ≡ false
not_below_chain a b c h g =
    by_order a b
    (λ less. absurd (true≢false (sym less ∙ h)))
    (λ equal. ap (λ t. is_below t c) (same_text a b equal) ∙ g)
    (λ more. by_order b c
    (λ less. absurd (true≢false (sym less ∙ g)))
    (λ equal. ap (is_below a) (sym (same_text b c equal)) ∙ h)
    (λ lower. below_one_way c a (below_trans c b a lower more)))

pub pairs_order : {V : Type 0} → IsStrictWeakOrder (λ (p q : List ℕ × V). is_below p.0 q.0)
pairs_order = record { one_way = λ p q. below_one_way p.0 q.0; chain = λ p q r. not_below_chain p.0 q.0 r.0 }

module _ {V : Type 0} where
  ascending_steps : (es : List (List ℕ × V)) → ((k : ℕ) (d : List ℕ) → suc k < length es → is_below (get_or (keys_of es) k d) (get_or (keys_of es) (suc k) d) ≡ true) → Ascending es
  ascending_steps [] f = tt
  ascending_steps (e ∷ []) f = (tt, tt)
  ascending_steps (e ∷ x ∷ es) f =
      let rest : Ascending (x ∷ es) = ascending_steps (x ∷ es) (λ k d l. f (suc k) d (omega arith)) in
      let first : is_below e.0 x.0 ≡ true = f 0 e.0 (omega arith) in
      ((first, AllKeys-mono (λ q. is_below x.0 q ≡ true) (λ q. is_below e.0 q ≡ true) (λ q. below_trans e.0 x.0 q first) es rest.0), rest)

  -- sorted pairs with distinct keys ascend
  pub ascending_sorted : (es : List (List ℕ × V)) → IsDistinct bytes_eq (keys_of es) → IsSortedBy (λ p q. is_below p.0 q.0) es → Ascending es
  ascending_sorted es distinct sorted =
      let keys = sorted_keys is_below es sorted in
      ascending_steps es (λ k d l.
      let within : suc k < length (keys_of es) = omega (arith, length-map es (λ p. p.0)) in
      let next : k + 1 ≡ suc k = omega arith in
      let at_next : k + 1 < length (keys_of es) = omega arith in
      let falls = subst (λ n. is_below (get_or (keys_of es) n d) (get_or (keys_of es) k d) ≡ false) next (keys k d (omega arith) at_next) in
      below_from_rest (get_or (keys_of es) k d) (get_or (keys_of es) (suc k) d) (apart_from_distinct bytes_eq (keys_of es) k (suc k) d distinct (omega arith) within) falls)

  -- ascending pairs with the same look-ups are the same
  pub same_from_lookups : (ls ms : List (List ℕ × V)) → Ascending ls → Ascending ms → ((k : List ℕ) → lookup (bytes_eq k) ls ≡ lookup (bytes_eq k) ms) → ls ≡ ms
  same_from_lookups [] [] a b f = refl
  same_from_lookups [] (m ∷ ms) a b f = absurd (none_some m.1 (f m.0 ∙ Some-first m ms))
    where
      none_some : (v : V) → None ≡ Some v → ⊥
      none_some v h = cc
  same_from_lookups (l ∷ ls) [] a b f = absurd (some_none l.1 (sym (Some-first l ls) ∙ f l.0))
    where
      some_none : (v : V) → Some v ≡ None → ⊥
      some_none v h = cc
  same_from_lookups (l ∷ ls) (m ∷ ms) a b f =
      by_order l.0 m.0
      (λ less. absurd (some_none l.1 (sym (Some-first l ls) ∙ f l.0 ∙ None-above l.0 (m ∷ ms) (less, AllKeys-mono (λ q. is_below m.0 q ≡ true) (λ q. is_below l.0 q ≡ true) (λ q. below_trans l.0 m.0 q less) ms b.0))))
      (λ equal. heads (same_text l.0 m.0 equal) (same_from_lookups ls ms a.1 b.1 (λ k. rest (same_text l.0 m.0 equal) k (bytes_eq k l.0) refl)))
      (λ more. absurd (some_none m.1 (sym (Some-first m ms) ∙ sym (f m.0) ∙ None-above m.0 (l ∷ ls) (more, AllKeys-mono (λ q. is_below l.0 q ≡ true) (λ q. is_below m.0 q ≡ true) (λ q. below_trans m.0 l.0 q more) ls a.0))))
    where
      some_none : (v : V) → Some v ≡ None → ⊥
      some_none v h = cc

      some_same : (v w : V) → Some v ≡ Some w → v ≡ w
      some_same v w h = cc

      heads : l.0 ≡ m.0 → ls ≡ ms → l ∷ ls ≡ m ∷ ms
      heads key r =
          let value = some_same l.1 m.1 (sym (Some-first l ls) ∙ f l.0 ∙ ap (λ k. lookup (bytes_eq k) (m ∷ ms)) key ∙ Some-first m ms) in
          λ i. (key i, value i) ∷ r i

      rest : l.0 ≡ m.0 → (k : List ℕ) (t : Bool) → bytes_eq k l.0 ≡ t → lookup (bytes_eq k) ls ≡ lookup (bytes_eq k) ms
      rest key k true is =
          let at = same_text k l.0 is in
          ap (λ q. lookup (bytes_eq q) ls) at ∙ None-above l.0 ls a.0 ∙ sym (ap (λ q. lookup (bytes_eq q) ms) (at ∙ key) ∙ None-above m.0 ms b.0)
      rest key k false is = sym (skip_first k l ls is) ∙ f k ∙ skip_first k m ms (ap (bytes_eq k) (sym key) ∙ is)

  pub keys_permuted : (es fs : List (List ℕ × V)) → IsPermutation es fs → IsPermutation (keys_of es) (keys_of fs)
  keys_permuted es fs p = IsPermutation-map (λ (e : List ℕ × V). e.0) es fs p

  pub distinct_permuted : (es fs : List (List ℕ × V)) → IsPermutation es fs → IsDistinct bytes_eq (keys_of es) → IsDistinct bytes_eq (keys_of fs)
  distinct_permuted es fs p = distinct_permutation nat_list_eq_equiv (keys_of es) (keys_of fs) (keys_permuted es fs p)

  -- what a sort leaves is the definition
  pub sorted_is : (es fs : List (List ℕ × V)) → IsDistinct bytes_eq (keys_of es) → IsPermutation es fs → IsSortedBy (λ p q. is_below p.0 q.0) fs → fs ≡ by_key es
  sorted_is es fs distinct moved sorted =
      let apart = distinct_permuted es fs moved distinct in
      same_from_lookups fs (by_key es) (ascending_sorted fs apart sorted) (Ascending-by_key es distinct)
      (λ k. lookup_permutation nat_list_eq_equiv es fs moved apart (bytes_eq k) (nat_list_eq_equiv.congr k) ∙ sym (lookup-by_key k es))

  -- the keys of two columns, where the pairs of both were put into another order
  pub columns_permuted : (ks ls : List (List ℕ)) (vs ws : List V) → length vs ≡ length ks → length ws ≡ length ls → IsPermutation (zip ks vs) (zip ls ws) → IsPermutation ks ls
  columns_permuted ks ls vs ws even even' moved =
      subst (λ l. IsPermutation l ls) (keys_of-zip ks vs even) (subst (IsPermutation (keys_of (zip ks vs))) (keys_of-zip ls ws even') (keys_permuted (zip ks vs) (zip ls ws) moved))
