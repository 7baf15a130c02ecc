-- What it is that a walk ends for good, whichever ends it is asked at.
use Rattle.std.specs.Prelude.{◌≡◌, ℕ, zero, suc, ⊤, Bool, true, false, List, [], ◌∷◌, Option, None, IsSome}

-- a walk s that is asked again and again, from the back where a call says `true`, answers these calls so and becomes t; first and
-- last relate the walk before a call of `next` and of `next_back`, the answer and the walk after
abbrev pub Answers : {S A : Type 0} → (S → Option A → S → Type 0) → (S → Option A → S → Type 0) → S → List (Bool × Option A)
    → S → Type 0
Answers first last s [] t = s ≡ t
Answers {S} first last s ((false, answer) ∷ calls) t = (between : S) × first s answer between × Answers first last between calls t
Answers {S} first last s ((true, answer) ∷ calls) t = (between : S) × last s answer between × Answers first last between calls t

-- the first n answers are items, and no other one is
abbrev pub ItemsThenNone : {A : Type 0} → ℕ → List (Bool × Option A) → Type 0
ItemsThenNone n [] = ⊤
ItemsThenNone zero ((_, answer) ∷ calls) = (answer ≡ None) × ItemsThenNone zero calls
ItemsThenNone (suc n) ((_, answer) ∷ calls) = IsSome answer × ItemsThenNone n calls

-- a walk that has as many items left as count says gives them all and then none, from any mix of ends
abbrev pub EndsForGood : {S A : Type 0} → (S → Option A → S → Type 0) → (S → Option A → S → Type 0) → (S → ℕ) → Type 0
EndsForGood {S} {A} first last count = (s t : S) (calls : List (Bool × Option A)) → Answers first last s calls t → ItemsThenNone (count s) calls
