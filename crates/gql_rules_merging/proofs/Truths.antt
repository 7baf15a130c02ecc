-- Tests that hold, and what is found in lists.
use Rattle.std.proofs.Common.{◌≡◌, ◌⊎◌, inl, inr, ℕ, Bool, true, false, ◌&&◌, ◌||◌, Some, List, [], ◌∷◌, refl, sym, ap, ◌∙◌}
use Rattle.std.specs.List.{Contains, list_all, slice_get}
use Rattle.std.specs.Str.{bytes_eq}
use Rattle.std.specs.Bool.{beq}
use Rattle.std.proofs.lemmas.Slice.Eq.{bytes_eq-Decides}
use Rattle.gql_graph.proofs.Flooded.{Contains-cons_cases, none_contained}
use Rattle.gql_rules_merging.specs.ConflictingFieldType.{same_levels}

pub both_true : (a b : Bool) → (a && b) ≡ true → (a ≡ true) × (b ≡ true)
both_true true b is = (refl, is)
both_true false b is = absurd cc

pub either_true : (a b : Bool) → (a || b) ≡ true → (a ≡ true) ⊎ (b ≡ true)
either_true true b is = inl refl
either_true false b is = inr is

pub one_text : (xs ys : List ℕ) → bytes_eq xs ys ≡ true → xs ≡ ys
one_text xs ys is = (bytes_eq-Decides xs ys).0 is

pub text_refl : (xs : List ℕ) → bytes_eq xs xs ≡ true
text_refl xs = (bytes_eq-Decides xs xs).1 refl

pub text_turned : (xs ys : List ℕ) → bytes_eq xs ys ≡ bytes_eq ys xs
text_turned xs ys = by_tests (bytes_eq xs ys) refl (bytes_eq ys xs) refl
  where
    by_tests : (t : Bool) → bytes_eq xs ys ≡ t → (u : Bool) → bytes_eq ys xs ≡ u → t ≡ u
    by_tests true a true b = refl
    by_tests false a false b = refl
    by_tests true a false b = sym (text_refl xs) ∙ ap (λ z. bytes_eq z xs) (one_text xs ys a) ∙ b
    by_tests false a true b = sym a ∙ ap (λ z. bytes_eq xs z) (one_text ys xs b) ∙ text_refl xs

pub beq-true : (x y : Bool) → beq x y ≡ true → x ≡ y
beq-true true true is = refl
beq-true true false is = absurd cc
beq-true false true is = absurd cc
beq-true false false is = refl

pub one_levels : (xs ys : List Bool) → same_levels xs ys ≡ true → xs ≡ ys
one_levels [] [] is = refl
one_levels [] (y ∷ ys) is = absurd cc
one_levels (x ∷ xs) [] is = absurd cc
one_levels (x ∷ xs) (y ∷ ys) is =
    let parts = both_true (beq x y) (same_levels xs ys) is in
    let first = beq-true x y parts.0 in
    let rest = one_levels xs ys parts.1 in
    λ i. first i ∷ rest i

pub levels_refl : (xs : List Bool) → same_levels xs xs ≡ true
levels_refl [] = refl
levels_refl (true ∷ xs) = levels_refl xs
levels_refl (false ∷ xs) = levels_refl xs

pub one_got : {A : Type 0} (xs : List A) (i : ℕ) (x y : A) → slice_get xs i ≡ Some x → slice_get xs i ≡ Some y → x ≡ y
one_got xs i x y a b = let e : Some x ≡ Some y = sym a ∙ b in cc

pub all_at : {A : Type 0} (test : A → Bool) (xs : List A) (x : A) → list_all test xs ≡ true → Contains xs x → test x ≡ true
all_at test [] x all c = absurd (none_contained x c)
all_at test (y ∷ ys) x all c =
    let parts = both_true (test y) (list_all test ys) all in
    elim (Contains-cons_cases y ys x c) [ inl e ↦ ap test (sym e) ∙ parts.0 | inr later ↦ all_at test ys x parts.1 later ]
