-- What holds of each item of a list.
use Rattle.std.proofs.Common.{◌≡◌, ℕ, Bool, true, false, cond, List, [], ◌∷◌, ◌++◌, Some, None, refl, subst}
use Rattle.std.specs.List.{AllByRecursion, filter, find}

module _ {A : Type 0} (P : A → Type 0) where
  pub all-both : (xs ys : List A) → AllByRecursion P xs → AllByRecursion P ys → AllByRecursion P (xs ++ ys)
  all-both [] ys p q = q
  all-both (x ∷ xs) ys p q = (p.0, all-both xs ys p.1 q)

  pub all-kept : (p : A → Bool) (xs : List A) → AllByRecursion P xs → AllByRecursion P (filter p xs)
  all-kept p [] each = tt
  all-kept p (x ∷ xs) each = by (p x) (all-kept p xs each.1)
    where
      by : (b : Bool) → AllByRecursion P (filter p xs) → AllByRecursion P (cond b (x ∷ filter p xs) (filter p xs))
      by true rest = (each.0, rest)
      by false rest = rest

  pub found-holds : (p : A → Bool) (xs : List A) (x : A) → AllByRecursion P xs → find p xs ≡ Some x → P x
  found-holds p [] x each is = absurd (let e : None ≡ Some x = is in cc)
  found-holds p (y ∷ ys) x each is = by (p y) is (found-holds p ys x each.1)
    where
      by : (b : Bool) → cond b (Some y) (find p ys) ≡ Some x → (find p ys ≡ Some x → P x) → P x
      by true e rest = subst P (let g : Some y ≡ Some x = e in let same : y ≡ x = cc in same) each.0
      by false e rest = rest e

pub all-map : {A : Type 0} (P Q : A → Type 0) → ((x : A) → P x → Q x) → (xs : List A) → AllByRecursion P xs → AllByRecursion Q xs
all-map P Q f [] each = tt
all-map P Q f (x ∷ xs) each = (f x each.0, all-map P Q f xs each.1)

-- what holds of each item for each number
pub all-turned : {A : Type 0} (P : ℕ → A → Type 0) (xs : List A) → ((n : ℕ) → AllByRecursion (P n) xs) → AllByRecursion (λ x. (n : ℕ) → P n x) xs
all-turned P [] each = tt
all-turned P (x ∷ xs) each = ((λ n. (each n).0), all-turned P xs (λ n. (each n).1))

-- those that are kept have what is asked
pub kept-has : {A : Type 0} (p : A → Bool) (xs : List A) → AllByRecursion (λ x. p x ≡ true) (filter p xs)
kept-has p [] = tt
kept-has p (x ∷ xs) = by (p x) refl (kept-has p xs)
  where
    by : (b : Bool) → p x ≡ b → AllByRecursion (λ x. p x ≡ true) (filter p xs) → AllByRecursion (λ x. p x ≡ true) (cond b (x ∷ filter p xs) (filter p xs))
    by true is rest = (is, rest)
    by false is rest = rest

pub found-has : {A : Type 0} (p : A → Bool) (xs : List A) (x : A) → find p xs ≡ Some x → p x ≡ true
found-has p [] x is = absurd (let e : None ≡ Some x = is in cc)
found-has p (y ∷ ys) x is = by (p y) refl is (found-has p ys x)
  where
    by : (b : Bool) → p y ≡ b → cond b (Some y) (find p ys) ≡ Some x → (find p ys ≡ Some x → p x ≡ true) → p x ≡ true
    by true here e rest = subst (λ z. p z ≡ true) (let g : Some y ≡ Some x = e in let same : y ≡ x = cc in same) here
    by false here e rest = rest e
