-- What it is for two objects, or two arrays, to be the same, by their parts.
use Rattle.std.proofs.Common.{◌≡◌, ◌↔◌, ℕ, true, List, [], ◌∷◌, map, Option, Some, None, sym, ap, refl, ◌∙◌}
use Rattle.std.specs.Str.{bytes_eq}
use Rattle.std.specs.List.{IsDistinct}
use Rattle.std.specs.Option.{option_eq}
use Rattle.std.specs.Map.{keys_of, lookup}
use Rattle.jb_map.specs.ByKey.{same_pairs, by_key}
use Rattle.jb_map.proofs.Ordered.{Ascending-by_key, lookup-by_key, agree_from_pairs, pairs_from_agree}
use Rattle.jb_tree.specs.declared.value.Value.{Value, Array, Object, roll-Value}
use Rattle.jb_tree.specs.declared.value.Value.TheOpen.{Value-F}
use Rattle.jb_tree.specs.contracts.value.ValuePartialEq.TheImpl.{ghosts}
use Rattle.jb_tree.specs.Same.{Same, SameItems, SameIfAny, SameMembers, sorted}
use Rattle.jb_tree.proofs.Equality.{equality_decides, eq-Object, sorted-Array, array_parts, parts}

-- lists of pairs that are compared as equal are the same as objects
pub maps_decide : (es fs : List (List ℕ × Value)) → (same_pairs ghosts.eq es fs ≡ true) ↔ Same (Object es) (Object fs)
unfolding roll-Value denote.Hole.Carrier.roll
maps_decide es fs =
    let decided = equality_decides (Object es) (Object fs) in
    (λ t. decided.0 (eq-Object es fs ∙ t), λ s. sym (eq-Object es fs) ∙ decided.1 s)

any_from_equal : (a b : Option Value) → option_eq ghosts.eq a b ≡ true → SameIfAny a b
any_from_equal None None e = tt
any_from_equal None (Some y) e = absurd (cc)
any_from_equal (Some x) None e = absurd (cc)
any_from_equal (Some x) (Some y) e = (equality_decides x y).0 e

equal_from_any : (a b : Option Value) → SameIfAny a b → option_eq ghosts.eq a b ≡ true
equal_from_any None None s = refl
equal_from_any None (Some y) s = absurd s
equal_from_any (Some x) None s = absurd s
equal_from_any (Some x) (Some y) s = (equality_decides x y).1 s

module _ (es fs : List (List ℕ × Value)) where
  in_order : (k : List ℕ) → option_eq ghosts.eq (lookup (bytes_eq k) (by_key es)) (lookup (bytes_eq k) (by_key fs)) ≡ option_eq ghosts.eq (lookup (bytes_eq k) es) (lookup (bytes_eq k) fs)
  in_order k i = option_eq ghosts.eq (lookup-by_key k es i) (lookup-by_key k fs i)

  pub objects_by_members : IsDistinct bytes_eq (keys_of es) → IsDistinct bytes_eq (keys_of fs) → Same (Object es) (Object fs) ↔ SameMembers es fs
  objects_by_members de df = (
    λ s k. any_from_equal _ _ (sym (in_order k) ∙ agree_from_pairs ghosts.eq (by_key es) (by_key fs) ((maps_decide es fs).1 s) k),
    λ h. (maps_decide es fs).0 (pairs_from_agree ghosts.eq (by_key es) (by_key fs) (Ascending-by_key es de) (Ascending-by_key fs df) (λ k. in_order k ∙ equal_from_any _ _ (h k))),
  )

items_from_sorted : (xs ys : List Value) → map sorted xs ≡ map sorted ys → SameItems xs ys
items_from_sorted [] [] e = tt
items_from_sorted [] (y ∷ ys) e = absurd (cc)
items_from_sorted (x ∷ xs) [] e = absurd (cc)
items_from_sorted (x ∷ xs) (y ∷ ys) e = let at = parts _ _ _ _ e in (at.0, items_from_sorted xs ys at.1)

sorted_from_items : (xs ys : List Value) → SameItems xs ys → map sorted xs ≡ map sorted ys
sorted_from_items [] [] s = refl
sorted_from_items [] (y ∷ ys) s = absurd s
sorted_from_items (x ∷ xs) [] s = absurd s
sorted_from_items (x ∷ xs) (y ∷ ys) s = λ i. s.0 i ∷ sorted_from_items xs ys s.1 i

pub arrays_by_items : (xs ys : List Value) → Same (Array xs) (Array ys) ↔ SameItems xs ys
unfolding roll-Value denote.Hole.Carrier.roll
arrays_by_items xs ys = (
  λ s. items_from_sorted xs ys (array_parts _ _ (sym (sorted-Array xs) ∙ s ∙ sorted-Array ys)),
  λ h. sorted-Array xs ∙ ap (λ l. roll-Value (Value-F.Array l)) (sorted_from_items xs ys h) ∙ sym (sorted-Array ys),
)
