-- Lists that are joined from lists: what is in them, one list in place of another, and lists in which no two items are alike.
use Rattle.std.proofs.Common.{arith, ◌≡◌, ◌+◌, ◌⊎◌, inl, inr, ℕ, zero, suc, List, [], ◌∷◌, ◌++◌, map, length, length-append, Some, None, slice_get, slice_set, refl, sym, ap, ◌∙◌, subst}
use Rattle.std.specs.List.{AllByRecursion, flat_map}
use Rattle.gql_collect.specs.Lists.{IsOneOf, AreApart}

module _ {W : Type 0} (v : W) where
  pub one-left : (xs ys : List W) → IsOneOf v xs → IsOneOf v (xs ++ ys)
  one-left [] ys is = absurd is
  one-left (x ∷ xs) ys (inl same) = inl same
  one-left (x ∷ xs) ys (inr is) = inr (one-left xs ys is)

  pub one-right : (xs ys : List W) → IsOneOf v ys → IsOneOf v (xs ++ ys)
  one-right [] ys is = is
  one-right (x ∷ xs) ys is = inr (one-right xs ys is)

  pub one-either : (xs ys : List W) → IsOneOf v (xs ++ ys) → IsOneOf v xs ⊎ IsOneOf v ys
  one-either [] ys is = inr is
  one-either (x ∷ xs) ys (inl same) = inl (inl same)
  one-either (x ∷ xs) ys (inr is) = elim (one-either xs ys is) [ inl here ↦ inl (inr here) | inr there ↦ inr there ]

-- what holds of each item of a list
pub all-of : {W : Type 0} (P : W → Type 0) (xs : List W) → ((v : W) → IsOneOf v xs → P v) → AllByRecursion P xs
all-of P [] holds = tt
all-of P (x ∷ xs) holds = (holds x (inl refl), all-of P xs (λ v is. holds v (inr is)))

module _ {A W : Type 0} (g : A → W) where
  pub one-map : (x : A) (xs : List A) → IsOneOf x xs → IsOneOf (g x) (map g xs)
  one-map x [] is = is
  one-map x (y ∷ ys) (inl same) = inl (ap g same)
  one-map x (y ∷ ys) (inr is) = inr (one-map x ys is)

  pub map-one : (v : W) (xs : List A) → IsOneOf v (map g xs) → (x : A) × IsOneOf x xs × (v ≡ g x)
  map-one v [] is = absurd is
  map-one v (y ∷ ys) (inl same) = (y, inl refl, same)
  map-one v (y ∷ ys) (inr is) = let there = map-one v ys is in (there.0, inr there.1, there.2)

  pub apart-map : ((x y : A) → g x ≡ g y → x ≡ y) → (xs : List A) → AreApart xs → AreApart (map g xs)
  apart-map one [] apart = tt
  apart-map one (x ∷ xs) apart = (
    λ is. let there = map-one (g x) xs is in apart.0 (subst (λ y. IsOneOf y xs) (sym (one x there.0 there.2)) there.1),
    apart-map one xs apart.1,
  )

module _ {A W : Type 0} (f : A → List W) where
  pub joined-length : (xs : List A) (i : ℕ) (x y : A) → slice_get xs i ≡ Some x
      → length (flat_map f (slice_set xs i y)) + length (f x) ≡ length (flat_map f xs) + length (f y)
  joined-length [] i x y is = absurd (let e : None ≡ Some x = is in cc)
  joined-length (z ∷ zs) zero x y is =
      let here : z ≡ x = (let e : Some z ≡ Some x = is in cc) in
      omega (arith, length-append (f y) (flat_map f zs), length-append (f z) (flat_map f zs), ap (λ a. length (f a)) here)
  joined-length (z ∷ zs) (suc i) x y is =
      omega (arith, joined-length zs i x y is, length-append (f z) (flat_map f (slice_set zs i y)), length-append (f z) (flat_map f zs))

  -- what is there once an item stands in place of another
  pub joined-was : (xs : List A) (i : ℕ) (x y : A) (v : W) → slice_get xs i ≡ Some x → IsOneOf v (flat_map f (slice_set xs i y))
      → IsOneOf v (flat_map f xs) ⊎ IsOneOf v (f y)
  joined-was [] i x y v is one = absurd (let e : None ≡ Some x = is in cc)
  joined-was (z ∷ zs) zero x y v is one = elim (one-either v (f y) (flat_map f zs) one) [
    | inl here ↦ inr here
    | inr there ↦ inl (one-right v (f z) (flat_map f zs) there)
  ]
  joined-was (z ∷ zs) (suc i) x y v is one = elim (one-either v (f z) (flat_map f (slice_set zs i y)) one) [
    | inl here ↦ inl (one-left v (f z) (flat_map f zs) here)
    | inr there ↦ elim (joined-was zs i x y v is there) [ inl was ↦ inl (one-right v (f z) (flat_map f zs) was) | inr new ↦ inr new ]
  ]

  pub joined-at : (xs : List A) (i : ℕ) (x : A) (v : W) → slice_get xs i ≡ Some x → IsOneOf v (f x) → IsOneOf v (flat_map f xs)
  joined-at [] i x v is one = absurd (let e : None ≡ Some x = is in cc)
  joined-at (z ∷ zs) zero x v is one =
      let here : z ≡ x = (let e : Some z ≡ Some x = is in cc) in
      one-left v (f z) (flat_map f zs) (subst (λ a. IsOneOf v (f a)) (sym here) one)
  joined-at (z ∷ zs) (suc i) x v is one = one-right v (f z) (flat_map f zs) (joined-at zs i x v is one)

  pub one-joined : (v : W) (xs : List A) → IsOneOf v (flat_map f xs) → (x : A) × IsOneOf x xs × IsOneOf v (f x)
  one-joined v [] is = absurd is
  one-joined v (x ∷ xs) is = elim (one-either v (f x) (flat_map f xs) is) [
    | inl here ↦ (x, inl refl, here)
    | inr there ↦ let found = one-joined v xs there in (found.0, inr found.1, found.2)
  ]

pub apart-append : {W : Type 0} (xs ys : List W) → AreApart xs → AreApart ys → ((v : W) → IsOneOf v xs → IsOneOf v ys → ⊥) → AreApart (xs ++ ys)
apart-append [] ys apart others none = others
apart-append (x ∷ xs) ys apart others none = (
  λ is. elim (one-either x xs ys is) [ inl here ↦ apart.0 here | inr there ↦ none x (inl refl) there ],
  apart-append xs ys apart.1 others (λ v here there. none v (inr here) there),
)

-- lists that are told apart by a key
module _ {A W K : Type 0} (f : A → List W) (key : A → K) (of : W → K) where
  abbrev pub IsKeyed : A → Type 0
  IsKeyed x = AreApart (f x) × ((v : W) → IsOneOf v (f x) → of v ≡ key x)

  keyed-at : (xs : List A) (x : A) → AllByRecursion IsKeyed xs → IsOneOf x xs → (v : W) → IsOneOf v (f x) → of v ≡ key x
  keyed-at [] x all is v one = absurd is
  keyed-at (y ∷ ys) x all (inl same) v one = subst (λ a. (u : W) → IsOneOf u (f a) → of u ≡ key a) (sym same) all.0.1 v one
  keyed-at (y ∷ ys) x all (inr is) v one = keyed-at ys x all.1 is v one

  pub apart-joined : (xs : List A) → AllByRecursion IsKeyed xs → AreApart (map key xs) → AreApart (flat_map f xs)
  apart-joined [] all apart = tt
  apart-joined (x ∷ xs) all apart =
      apart-append (f x) (flat_map f xs) all.0.0 (apart-joined xs all.1 apart.1)
      (λ v here there. let found = one-joined f v xs there in
      apart.0 (subst (λ k. IsOneOf k (map key xs)) (sym (keyed-at xs found.0 all.1 found.1 v found.2) ∙ all.0.1 v here) (one-map key found.0 xs found.1)))
