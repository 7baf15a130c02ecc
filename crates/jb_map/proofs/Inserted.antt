-- Pairs that are taken from the front of a list, one after another.
use Rattle.std.proofs.Common.{◌≡◌, ℕ, zero, suc, ◌<◌, List, [], ◌∷◌, ◌++◌, length, take, drop, reverse, Result, Ok, Err, OnOk, OnErr, sym, ap, ◌∙◌, subst, arith}
use Rattle.std.specs.Str.{bytes_eq}
use Rattle.indexmap.specs.IndexMap.{insert_entry, insert_all}
use Rattle.std.specs.List.{IsDistinct}
use Rattle.std.specs.Map.{keys_of}
use Rattle.std.specs.Cmp.Lexicographic.{nat_list_eq_equiv}
use Rattle.std.proofs.lemmas.List.{drop-map}
use Rattle.std_collections.proofs.HashLookup.{distinct_nil}
use Rattle.indexmap.proofs.MapLemmas.{insert_all_push, distinct-drop}
use Rattle.jb_map.specs.Moved.{MovesSome}

module _ {X : Type 0} where
  -- the first of those left lies within the list
  pub first_within : (n : ℕ) (xs : List X) (x : X) (ys : List X) → drop n xs ≡ x ∷ ys → n < length xs
  first_within zero [] x ys h = cc
  first_within zero (z ∷ xs) x ys h = omega arith
  first_within (suc n) [] x ys h = cc
  first_within (suc n) (z ∷ xs) x ys h = let before : n < length xs = first_within n xs x ys h in omega arith

  pub take_with_first : (n : ℕ) (xs : List X) (x : X) (ys : List X) → drop n xs ≡ x ∷ ys → take (suc n) xs ≡ take n xs ++ x ∷ []
  take_with_first zero [] x ys h = cc
  take_with_first zero (z ∷ xs) x ys h = let same : z ≡ x = cc in ap (λ y. y ∷ []) same
  take_with_first (suc n) [] x ys h = cc
  take_with_first (suc n) (z ∷ xs) x ys h = ap (λ l. z ∷ l) (take_with_first n xs x ys h)

  pub drop_first : (n : ℕ) (xs : List X) (x : X) (ys : List X) → drop n xs ≡ x ∷ ys → drop (suc n) xs ≡ ys
  drop_first zero [] x ys h = cc
  drop_first zero (z ∷ xs) x ys h = let same : xs ≡ ys = cc in same
  drop_first (suc n) [] x ys h = cc
  drop_first (suc n) (z ∷ xs) x ys h = drop_first n xs x ys h

module _ {V : Type 0} where
  -- one more pair inserted
  pub inserted_more : (old pairs new : List (List ℕ × V)) (n : ℕ) (pair : List ℕ × V) (left : List (List ℕ × V)) (next : List (List ℕ × V))
      → new ≡ insert_all bytes_eq old (take n pairs) → drop n pairs ≡ pair ∷ left → next ≡ insert_entry bytes_eq new pair.0 pair.1
      → next ≡ insert_all bytes_eq old (take (suc n) pairs)
  inserted_more old pairs new n pair left next is front put =
      put ∙ ap (λ l. insert_entry bytes_eq l pair.0 pair.1) is ∙ sym (insert_all_push bytes_eq old (take n pairs) pair) ∙ ap (insert_all bytes_eq old) (sym (take_with_first n pairs pair left front))

  -- what is left after a move has distinct keys
  pub left_distinct : {A E : Type 0} (r : Result A E) (old all new left : List (List ℕ × V)) → OnOk r (left ≡ []) → OnErr r (MovesSome old all new left)
      → IsDistinct bytes_eq (keys_of all) → IsDistinct bytes_eq (keys_of left)
  left_distinct (Ok _) old all new left none some distinct = distinct_nil bytes_eq nat_list_eq_equiv left none
  left_distinct (Err _) old all new left none some distinct =
      subst (IsDistinct bytes_eq) (drop-map (λ (p : List ℕ × V). p.0) some.0 all ∙ ap keys_of (sym some.3)) (distinct-drop nat_list_eq_equiv some.0 (keys_of all) distinct)

pub none_reversed : {A E X : Type 0} (r : Result A E) (left : List X) → OnOk r (left ≡ []) → OnOk r (reverse left ≡ [])
none_reversed (Ok _) left h = ap reverse h
none_reversed (Err _) left h = tt
