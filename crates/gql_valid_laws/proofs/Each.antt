-- What holds of each of a list, one after the other.
use Rattle.std.proofs.Common.{suc, List, [], ◌∷◌, All, arith}
use Rattle.std.proofs.lemmas.List.Elements.{All-cons, All-nil}

abbrev pub Each : {X : Type 0} → (X → Type 0) → List X → Type 0
Each P [] = Unit {0}
Each P (x ∷ xs) = P x × Each P xs

module _ {X : Type 0} (P : X → Type 0) where
  pub all-of : (xs : List X) → Each P xs → All P xs
  all-of [] each = All-nil P
  all-of (x ∷ xs) each = All-cons P x xs each.0 (all-of xs each.1)

  pub each-of : (xs : List X) → All P xs → Each P xs
  each-of [] all = tt
  each-of (x ∷ xs) all = (all 0 x (omega arith), each-of xs (λ k d lt. all (suc k) d (omega arith)))
