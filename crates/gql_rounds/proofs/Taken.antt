-- The front of a list with the item behind it.
use Rattle.std.proofs.Common.{◌≡◌, ℕ, zero, suc, ◌+◌, List, [], ◌∷◌, ◌++◌, map, take, Some, None, slice_get, ap, ◌∙◌, add-one}

take-suc : {A B : Type 0} (f : A → B) (xs : List A) (i : ℕ) (x : A) → slice_get xs i ≡ Some x → map f (take (suc i) xs) ≡ map f (take i xs) ++ f x ∷ []
take-suc f [] i x there = absurd (let e : None ≡ Some x = there in cc)
take-suc f (y ∷ ys) zero x there = ap (λ z. f z ∷ []) (let e : Some y ≡ Some x = there in let same : y ≡ x = cc in same)
take-suc f (y ∷ ys) (suc i) x there = ap (λ l. f y ∷ l) (take-suc f ys i x there)

pub take-got : {A B : Type 0} (f : A → B) (xs : List A) (i : ℕ) (x : A) → slice_get xs i ≡ Some x → map f (take (i + 1) xs) ≡ map f (take i xs) ++ f x ∷ []
take-got f xs i x there = ap (λ k. map f (take k xs)) (add-one i) ∙ take-suc f xs i x there
