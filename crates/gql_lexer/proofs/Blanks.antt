-- A row of white space and byte order marks that begins with white space: its bytes of white space, and what follows from a mark on.
use Rattle.std.proofs.Common.{◌≡◌, ℕ, suc, ◌+◌, ◌<◌, Bool, true, false, [], ◌∷◌, length, drop, get_or, refl, ◌∙◌, ap, arith, add-zero}
use Rattle.std.specs.Prelude.{◌==◌, if◌then◌else◌}
use Rattle.std.specs.List.{prefix_len}
use Rattle.std.proofs.lemmas.Bool.{ne_eqb}
use Rattle.std.proofs.lemmas.List.{get_or-drop}
use Rattle.gql_lexer.specs.Class.{Text, is_blank}
use Rattle.gql_lexer.specs.Lex.{blank_len, is_mark, run_len}
use Rattle.gql_lexer.proofs.Runs.{run_len-byte, run_len-bytes, run_len-none, run_len-some}

-- the bytes of white space that the text begins with
abbrev front : Text → ℕ
front at = prefix_len is_blank at

one_blank : (b : ℕ) (at : Text) → is_blank b ≡ true → blank_len (b ∷ at) ≡ 1
unfolding blank_len
one_blank b at h = rw h refl

blank_then : (b : ℕ) (at : Text) → is_blank b ≡ true → run_len blank_len (b ∷ at) ≡ 1 + run_len blank_len at
blank_then b at h = run_len-byte blank_len b at (one_blank b at h)

row : (at : Text) → run_len blank_len at ≡ front at + run_len blank_len (drop (front at) at)
row at = run_len-bytes blank_len is_blank one_blank at

ends_from : (b : ℕ) (at : Text) → is_blank (get_or (drop (front at) at) 0 0) ≡ false → (p : Bool) → is_blank b ≡ p
    → is_blank (get_or (drop (front (b ∷ at)) (b ∷ at)) 0 0) ≡ false
ends_from b at more true e =
    let s : 1 + front at ≡ suc (front at) = omega arith in
    rw (e, s) more
ends_from b at more false e = rw e e

ends : (at : Text) → is_blank (get_or (drop (front at) at) 0 0) ≡ false
ends [] = refl
ends (b ∷ at) = ends_from b at (ends at) (is_blank b) refl

no_mark : (at : Text) → is_blank (get_or at 0 0) ≡ false → (get_or at 0 0 == 0xEF) ≡ false → blank_len at ≡ 0
unfolding blank_len
no_mark at h m = rw (h, m) refl

-- the place behind the white space that a text begins with, its first byte being white space
abbrev pub blanks_end : Text → ℕ
blanks_end at = 1 + prefix_len is_blank (drop 1 at)

pub blanks-row : (at : Text) → 0 < length at → is_blank (get_or at 0 0) ≡ true
    → run_len blank_len at ≡ blanks_end at + run_len blank_len (drop (blanks_end at) at)
blanks-row [] some h = absurd (omega arith)
blanks-row (b ∷ at) some h =
    let s : 1 + front at ≡ suc (front at) = omega arith in
    rw s (omega (arith, blank_then b at h, row at))

pub blanks-alone : (at : Text) → 0 < length at → is_blank (get_or at 0 0) ≡ true → (get_or at (blanks_end at) 0 ≡ 0xEF → ⊥)
    → run_len blank_len at ≡ blanks_end at
blanks-alone [] some h m = absurd (omega arith)
blanks-alone (b ∷ at) some h m =
    let s : 1 + front at ≡ suc (front at) = omega arith in
    let e : get_or (drop (front at) at) 0 0 ≡ get_or at (front at) 0 = get_or-drop (front at) at 0 0 ∙ ap (λ i. get_or at i 0) (add-zero (front at)) in
    let m' : (get_or (drop (front at) at) 0 0 == 0xEF) ≡ false = rw e (ne_eqb (get_or at (front at) 0) 0xEF (rw s at m)) in
    let none : run_len blank_len (drop (front at) at) ≡ 0 = run_len-none blank_len (drop (front at) at) (no_mark (drop (front at) at) (ends at) m') in
    omega (arith, blank_then b at h, row at, none)

one_or_three : (p q : Bool) → q ≡ true → 0 < (if p then 1 else if q then 3 else 0)
one_or_three true q h = omega arith
one_or_three false true h = omega arith
one_or_three false false h = absurd (let f : false ≡ true = h in cc)

pub marks-some : (at : Text) → 0 < length at → is_mark at ≡ true → 0 < run_len blank_len at
unfolding blank_len
marks-some at some h = run_len-some blank_len at some (one_or_three (is_blank (get_or at 0 0)) (is_mark at) h)
