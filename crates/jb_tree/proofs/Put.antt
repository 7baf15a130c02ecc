-- A value put in the place that tokens name, one token at a time.
use Rattle.std.proofs.Common.{◌≡◌, ℕ, zero, suc, ◌≤◌, List, [], ◌∷◌, slice_get, slice_set, Option, Some, None, option_and_then, Result, Ok, Err, sym, ap, refl, ◌∙◌, arith}
use denote.Param.Weighed.{most}
use Rattle.std.specs.Option.{option_map_or}
use Rattle.jb_tree.specs.Index.{IsPut}
use Rattle.jb_tree.specs.Pointer.{named, named_put}
use Rattle.jb_tree.specs.declared.value.Value.{Value, size-Value}

pub same_item : (xs : List Value) (i : ℕ) (x : Value) → slice_get xs i ≡ Some x → slice_set xs i x ≡ xs
same_item [] i x at = refl
same_item (y ∷ ys) zero x at = let same : x ≡ y = cc in ap (λ z. z ∷ ys) same
same_item (y ∷ ys) (suc i) x at = ap (λ l. y ∷ l) (same_item ys i x at)

-- below a part of a whole: the part is found there, and one that is the same in its place leaves the whole as it is
module _ {W : Type 0} (ts : List (List ℕ)) (found : Option Value) (whole : W) (with_part : Value → W) (part : Value) (is_found : found ≡ Some part) (same : with_part part ≡ whole) where
  pub put_below : (r : Result Value Value) (given after : Value) (new : W) → new ≡ with_part after → IsPut r given (named ts part) part (named_put ts part given) after
      → IsPut r given (option_and_then (named ts) found) whole (option_map_or (λ x. with_part (named_put ts x given)) found whole) new
  put_below (Ok stood) given after new written is =
      (ap (option_and_then (named ts)) is_found ∙ is.0, written ∙ ap with_part is.1 ∙ sym (ap (λ o. option_map_or (λ x. with_part (named_put ts x given)) o whole) is_found))
  put_below (Err back) given after new written is =
      (ap (option_and_then (named ts)) is_found ∙ is.0, is.1, written ∙ ap with_part is.2 ∙ same)

nothing_below : (ts : List (List ℕ)) (found : Option Value) → found ≡ None → option_and_then (named ts) found ≡ None
nothing_below ts found none = ap (option_and_then (named ts)) none

pub put_nowhere : {W : Type 0} (ts : List (List ℕ)) (found : Option Value) (given : Value) (whole changed : W) → found ≡ None → IsPut (Err given) given (option_and_then (named ts) found) whole changed whole
put_nowhere ts found given whole changed none = (nothing_below ts found none, refl, refl)

within_most : (f : Value → ℕ) (xs : List Value) (i : ℕ) (x : Value) → slice_get xs i ≡ Some x → f x ≤ most f xs
within_most f [] i x at = cc
within_most f (y ∷ ys) zero x at = let same : f x ≡ f y = ap f (cc) in omega (arith, same)
within_most f (y ∷ ys) (suc i) x at = omega (arith, within_most f ys i x at)

-- an item is no larger than the largest
pub item_size : (items : List Value) (i : ℕ) (x : Value) → slice_get items i ≡ Some x → size-Value x ≤ most size-Value items
item_size items i x at = within_most size-Value items i x at
