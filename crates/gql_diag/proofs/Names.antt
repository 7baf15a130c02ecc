-- Comparing two lists where one of them ends.
use Rattle.std.proofs.Common.{◌≡◌, ℕ, ◌-◌, ◌≤◌, min, List, [], ◌∷◌, length, drop, refl, ◌∙◌, ap, arith}
use Rattle.std.specs.declared.cmp.Ordering.{Ordering}
use Rattle.std.specs.Ordering.{nat_cmp}
use Rattle.std.specs.Cmp.Lexicographic.{slice_cmp}
use Rattle.std.proofs.lemmas.List.{length-drop}
use Rattle.std.proofs.lemmas.Bool.Decides.{nat_tests}

one_ended : {A : Type 0} (R : A → A → Ordering) (xs ys : List A) → min (length xs) (length ys) ≡ 0 → slice_cmp R xs ys ≡ nat_cmp (length xs) (length ys)
one_ended R [] [] h = refl
one_ended R [] (y ∷ ys) h = grind (arith, nat_tests)
one_ended R (x ∷ xs) [] h = grind (arith, nat_tests)
one_ended R (x ∷ xs) (y ∷ ys) h = absurd (omega arith)

less_both : (i m n : ℕ) → i ≤ m → i ≤ n → nat_cmp (m - i) (n - i) ≡ nat_cmp m n
less_both i m n h g = grind (arith, nat_tests)

pub slice_cmp-ended : {A : Type 0} (R : A → A → Ordering) (xs ys : List A) (i : ℕ) → i ≡ min (length xs) (length ys) → slice_cmp R (drop i xs) (drop i ys) ≡ nat_cmp (length xs) (length ys)
slice_cmp-ended R xs ys i h =
    one_ended R (drop i xs) (drop i ys) (omega (arith, length-drop i xs, length-drop i ys))
    ∙ ap (λ n. nat_cmp n (length (drop i ys))) (length-drop i xs)
    ∙ ap (λ n. nat_cmp (length xs - i) n) (length-drop i ys)
    ∙ less_both i (length xs) (length ys) (omega arith) (omega arith)
