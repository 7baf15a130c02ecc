-- Where a run of bytes ends, and where a text may be cut.
use Rattle.std.proofs.Common.{◌≡◌, ℕ, zero, suc, ◌+◌, ◌<◌, ◌≤◌, inl, inr, min, Bool, true, false, not, length, drop, get_or, ◌∙◌, ap, arith, length-drop}
use Rattle.std.specs.Prelude.{◌==◌, slice_index}
use Rattle.std.specs.List.{prefix_len}
use Rattle.std.specs.Str.{IsCharBoundary, IsUtf8}
use Rattle.std.proofs.lemmas.List.{get_or-drop, get_or_past}
use Rattle.std.proofs.lemmas.List.Sums.{prefix_len-le-length, prefix_len_stops, prefix_len_passes}
use Rattle.std.proofs.lemmas.Bool.{eqb-true, cases_lt}
use Rattle.std.proofs.lemmas.Bool.Decides.{nat_tests}
use Rattle.std.proofs.lemmas.Str.{IsCharBoundary-start, IsCharBoundary-after_ascii}
use Rattle.std.proofs.Math.Nat.{min-le_right}
use Rattle.gql_lexer.specs.Class.{Text, is_space, is_within_line}
use Rattle.gql_lexer.specs.BlockString.{white_len}
use Rattle.gql_lexer.proofs.Choices.{not_false}

-- each byte that ends the run is ASCII
abbrev pub EndsAscii : (ℕ → Bool) → Type 0
EndsAscii p = (b : ℕ) → p b ≡ false → b < 128

pub line_end-ascii : EndsAscii is_within_line
line_end-ascii b h = grind (arith, nat_tests)

pub backslash-ascii : EndsAscii (λ b. not (b == 0x5C))
backslash-ascii b h = grind (arith, nat_tests)

space-ascii : (b : ℕ) → is_space b ≡ true → b < 128
space-ascii b h = grind (arith, nat_tests)

pub run-bound : (p : ℕ → Bool) (s : Text) → EndsAscii p → IsCharBoundary s (prefix_len p s)
run-bound p s ascii =
    (prefix_len-le-length p s, λ l big. absurd (omega (arith, ascii (get_or s (prefix_len p s) 0) (prefix_len_stops p s 0 l))))

pub run-ascii : (p : ℕ → Bool) (s : Text) → EndsAscii p → slice_index (drop (prefix_len p s) s) 0 < 128
run-ascii p s ascii =
    let n = prefix_len p s in
    let e : get_or (drop n s) 0 0 ≡ get_or s n 0 = get_or-drop n s 0 0 ∙ ap (λ i. get_or s i 0) (let f : n + 0 ≡ n = omega arith in f) in
    rw e (elim (cases_lt n (length s)) [
      | inl h ↦ ascii (get_or s n 0) (prefix_len_stops p s 0 h)
      | inr h ↦ rw (get_or_past s n 0 h) (omega arith)
    ])

backslash-stops : (s : Text) → 0 < length (drop (prefix_len (λ b. not (b == 0x5C)) s) s) → slice_index (drop (prefix_len (λ b. not (b == 0x5C)) s) s) 0 ≡ 0x5C
backslash-stops s some =
    let p : ℕ → Bool = λ b. not (b == 0x5C) in
    let n = prefix_len p s in
    let e : get_or (drop n s) 0 0 ≡ get_or s n 0 = get_or-drop n s 0 0 ∙ ap (λ i. get_or s i 0) (let f : n + 0 ≡ n = omega arith in f) in
    let stops : p (get_or s n 0) ≡ false = prefix_len_stops p s 0 (omega (arith, length-drop n s)) in
    e ∙ eqb-true (get_or s n 0) 0x5C (not_false (get_or s n 0 == 0x5C) stops)

some_length : (n : ℕ) → (n == 0) ≡ false → 0 < n
some_length zero h = absurd (let f : true ≡ false = h in cc)
some_length (suc n) h = omega arith

pub backslash-first : (s behind : Text) → behind ≡ drop (prefix_len (λ b. not (b == 0x5C)) s) s → (length behind == 0) ≡ false → slice_index behind 0 ≡ 0x5C
backslash-first s behind is some = rw is (backslash-stops s (some_length (length (drop (prefix_len (λ b. not (b == 0x5C)) s) s)) (rw is at some)))

white-bound : (line : Text) (m : ℕ) → IsUtf8 line → m ≤ white_len line → IsCharBoundary line m
white-bound line zero text h = IsCharBoundary-start line text
white-bound line (suc m) text h =
    let e : m + 1 ≡ suc m = omega arith in
    rw e at
    (IsCharBoundary-after_ascii line m text (omega (arith, prefix_len-le-length is_space line)) (space-ascii (get_or line m 0) (prefix_len_passes is_space line m 0 (omega arith))))

pub indent-bound : (line : Text) (n : ℕ) → IsUtf8 line → IsCharBoundary line (min n (white_len line))
indent-bound line n text = white-bound line (min n (white_len line)) text (min-le_right n (white_len line))
