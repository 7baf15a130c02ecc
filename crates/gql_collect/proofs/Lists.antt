-- Items of lists: one that is there, one that is put in place of another, one more.
use Rattle.std.proofs.Common.{arith, ◌≡◌, ◌<◌, ℕ, zero, suc, Bool, true, List, [], ◌∷◌, ◌++◌, map, length, get_or, Some, None, Result, Ok, Err, IfOk, OnOk, slice_get, slice_set, refl, sym, ap, ◌∙◌, subst}
use Rattle.std.specs.List.{AllByRecursion, position}
use Rattle.std.proofs.lemmas.List.Quantifiers.{position-Some}

module _ {A : Type 0} where
  module _ (P : A → Type 0) where
    pub all-at : (xs : List A) (i : ℕ) (x : A) → AllByRecursion P xs → slice_get xs i ≡ Some x → P x
    all-at [] i x all is = absurd (let e : None ≡ Some x = is in cc)
    all-at (y ∷ ys) zero x all is = subst P (let e : Some y ≡ Some x = is in let same : y ≡ x = cc in same) all.0
    all-at (y ∷ ys) (suc i) x all is = all-at ys i x all.1 is

    pub all-set : (xs : List A) (i : ℕ) (x : A) → AllByRecursion P xs → P x → AllByRecursion P (slice_set xs i x)
    all-set [] i x all new = tt
    all-set (y ∷ ys) zero x all new = (new, all.1)
    all-set (y ∷ ys) (suc i) x all new = (all.0, all-set ys i x all.1 new)

    pub all-more : (xs : List A) (x : A) → AllByRecursion P xs → P x → AllByRecursion P (xs ++ x ∷ [])
    all-more [] x all new = (new, tt)
    all-more (y ∷ ys) x all new = (all.0, all-more ys x all.1 new)

  pub at-end : (xs : List A) (x : A) → slice_get (xs ++ x ∷ []) (length xs) ≡ Some x
  at-end [] x = refl
  at-end (y ∷ ys) x = at-end ys x

  some-at : (xs : List A) (i : ℕ) → i < length xs → (x : A) × (slice_get xs i ≡ Some x) × ((d : A) → get_or xs i d ≡ x)
  some-at [] i less = absurd (omega (arith, less))
  some-at (y ∷ ys) zero less = (y, refl, λ d. refl)
  some-at (y ∷ ys) (suc i) less = some-at ys i (omega (arith, less))

  -- the item at the position of what is looked for
  pub at-position : (p : A → Bool) (xs : List A) (i : ℕ) → position p xs ≡ Some i → (x : A) × (slice_get xs i ≡ Some x) × (p x ≡ true)
  at-position p [] i is = absurd (let e : None ≡ Some i = is in cc)
  at-position p (y ∷ ys) i is =
      let first = position-Some p (y ∷ ys) i y is in
      let there = some-at (y ∷ ys) i first.0 in
      (there.0, there.1, subst (λ x. p x ≡ true) (there.2 y) first.1)

-- a change in place that leaves alone what is seen of the item
pub map-set : {A B : Type 0} (f : A → B) (xs : List A) (i : ℕ) (old new : A) → slice_get xs i ≡ Some old → f new ≡ f old → map f (slice_set xs i new) ≡ map f xs
map-set f [] i old new is same = refl
map-set f (y ∷ ys) zero old new is same =
    let here : y ≡ old = (let e : Some y ≡ Some old = is in cc) in
    ap (λ z. z ∷ map f ys) (same ∙ ap f (sym here))
map-set f (y ∷ ys) (suc i) old new is same = ap (λ zs. f y ∷ zs) (map-set f ys i old new is same)

-- what a result tells, and what follows whatever it is
pub ok-tells : {A E : Type 0} (r : Result A E) (P : A → Type 0) (Q : Type 0) → ((x : A) → P x → Q) → IfOk r P → OnOk r Q
ok-tells (Ok x) P Q follows told = follows x told
ok-tells (Err e) P Q follows told = tt

pub ok-anyway : {A E : Type 0} (r : Result A E) (Q : Type 0) → Q → OnOk r Q
ok-anyway (Ok x) Q it = it
ok-anyway (Err e) Q it = tt
