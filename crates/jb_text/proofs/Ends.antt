-- A walk whose calls count down ends for good.
use Rattle.std.proofs.Common.{◌≡◌, ℕ, zero, suc, Bool, true, false, List, [], ◌∷◌, length, Option, Some, None, ap, refl, arith}
use Rattle.std.specs.Map.Iter.{TakesFirst, TakesLast}
use Rattle.std.proofs.lemmas.List.{length-append}
use Rattle.std.specs.Borrow.{MutBor}
use Rattle.jb_text.specs.declared.iter_mut.ValuesMut.{ValuesMut}
use Rattle.jb_text.specs.WalkMut.{values_left, values_step, values_step_back}
use Rattle.jb_text.specs.Ends.{Answers, ItemsThenNone, EndsForGood}

module _ {S A : Type 0} (count : S → ℕ) where
  -- an item takes one off the count, and no item comes just where none is left
  abbrev pub CountsDown : (S → Option A → S → Type 0) → Type 0
  CountsDown step = (s t : S) → ((x : A) → step s (Some x) t → count s ≡ suc (count t)) × (step s None t → (count s ≡ 0) × (count t ≡ 0))

  module _ (first last : S → Option A → S → Type 0) (at_first : CountsDown first) (at_last : CountsDown last) where
    counted : (n : ℕ) (s t : S) (calls : List (Bool × Option A)) → count s ≡ n → Answers first last s calls t → ItemsThenNone n calls
    counted zero s t [] is gives = tt
    counted (suc n) s t [] is gives = tt
    counted zero s t ((false, None) ∷ calls) is gives = (refl, counted zero gives.0 t calls ((at_first s gives.0).1 gives.1).1 gives.2)
    counted zero s t ((true, None) ∷ calls) is gives = (refl, counted zero gives.0 t calls ((at_last s gives.0).1 gives.1).1 gives.2)
    counted zero s t ((false, Some x) ∷ calls) is gives = let left = (at_first s gives.0).0 x gives.1 in absurd (omega (arith, is, left))
    counted zero s t ((true, Some x) ∷ calls) is gives = let left = (at_last s gives.0).0 x gives.1 in absurd (omega (arith, is, left))
    counted (suc n) s t ((false, None) ∷ calls) is gives = let left = ((at_first s gives.0).1 gives.1).0 in absurd (omega (arith, is, left))
    counted (suc n) s t ((true, None) ∷ calls) is gives = let left = ((at_last s gives.0).1 gives.1).0 in absurd (omega (arith, is, left))
    counted (suc n) s t ((false, Some x) ∷ calls) is gives =
        let left = (at_first s gives.0).0 x gives.1 in
        let next : count gives.0 ≡ n = omega (arith, is, left) in
        (refl, counted n gives.0 t calls next gives.2)
    counted (suc n) s t ((true, Some x) ∷ calls) is gives =
        let left = (at_last s gives.0).0 x gives.1 in
        let next : count gives.0 ≡ n = omega (arith, is, left) in
        (refl, counted n gives.0 t calls next gives.2)

    pub ends : EndsForGood first last count
    ends s t calls gives = counted (count s) s t calls refl gives

module _ {A X : Type 0} (shows : A → X) where
  pub first_counts : (s t : List X) → ((x : A) → TakesFirst shows s (Some x) t → length s ≡ suc (length t)) × (TakesFirst shows s None t → (length s ≡ 0) × (length t ≡ 0))
  first_counts s t = ((λ x is. let here = ap length is in omega (arith, here)), (λ none. (ap length none.0, ap length none.1)))

  pub last_counts : (s t : List X) → ((x : A) → TakesLast shows s (Some x) t → length s ≡ suc (length t)) × (TakesLast shows s None t → (length s ≡ 0) × (length t ≡ 0))
  last_counts s t = ((λ x is. let long = length-append t (shows x ∷ []) in let here = ap length is in omega (arith, long, here)), (λ none. (ap length none.0, ap length none.1)))

module _ {V : Type 0} where
  pub values_first_counts : (s t : ValuesMut V) → ((x : MutBor V) → values_step s (Some x) t → length (values_left s) ≡ suc (length (values_left t))) × (values_step s None t → (length (values_left s) ≡ 0) × (length (values_left t) ≡ 0))
  values_first_counts s t = ((λ x is. let here = ap length is in omega (arith, here)), (λ none. none))

  pub values_last_counts : (s t : ValuesMut V) → ((x : MutBor V) → values_step_back s (Some x) t → length (values_left s) ≡ suc (length (values_left t))) × (values_step_back s None t → (length (values_left s) ≡ 0) × (length (values_left t) ≡ 0))
  values_last_counts s t = ((λ x is. let long = length-append (values_left t) (x.now ∷ []) in let here = ap length is in omega (arith, long, here)), (λ none. none))
