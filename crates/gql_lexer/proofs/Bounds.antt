-- Tokens and faults lie between characters.
use Rattle.std.proofs.Common.{◌≡◌, ℕ, zero, suc, ◌+◌, ◌-◌, ◌<◌, ◌≤◌, ◌⊎◌, inl, inr, Bool, true, false, ◌&&◌, ◌||◌, [], ◌∷◌, ◌++◌, length, drop, get_or, refl, sym, ◌∙◌, arith, add-zero, zero-add, length-drop}
use Rattle.std.specs.Prelude.{if◌then◌else◌, ◌==◌, slice_index, encode_utf8}
use Rattle.std.specs.List.{prefix_len}
use Rattle.std.specs.Str.{IsUtf8, IsCharBoundary}
use lib.Utf8.{encode}
use Rattle.std.proofs.lemmas.Bool.{eqb-true}
use Rattle.std.proofs.lemmas.Bool.Decides.{nat_tests}
use Rattle.std.proofs.lemmas.List.{get_or-drop}
use Rattle.std.proofs.lemmas.List.Sums.{prefix_len-le-length, prefix_len_passes, prefix_len_stops}
use Rattle.std.proofs.lemmas.Str.{IsCharBoundary-start, IsCharBoundary-after_ascii, IsCharBoundary-from_rest, IsUtf8-drop, IsUtf8-past_char}
use Rattle.gql_lexer.specs.Class.{Text, class_of, is_name_start, is_digit, is_blank, is_punctuator, is_name_continue, is_line, is_source, is_continuation}
use Rattle.gql_lexer.specs.Lex.{run_len, blank_len, is_mark, is_block_quote, is_exponent, is_sign, sign_end, whole_end, fraction_end, exponent_start, exponent_end, past}
use Rattle.gql_lexer.specs.Lexical.{IsToken, IsFault, EndsLine, BreaksAt, is_spread, fraction_of, number_end, string_end, block_end, comment_end}
use Rattle.gql_lexer.proofs.Choices.{both, within, bool_cases}
use Rattle.gql_lexer.proofs.Lengths.{blank_len-le}
use Rattle.gql_lexer.proofs.Runs.{run_len-item, run_len-none}
use Rattle.gql_lexer.specs.declared.class.ByteClass.{ByteClass}
use Rattle.gql_lexer.specs.declared.class.ByteClass.TheVariants as class
use Rattle.gql_lexer.specs.declared.run.ByteRun.TheVariants as bytes
use Rattle.gql_lexer.specs.declared.error.SyntaxFault.{SyntaxFault}
use Rattle.gql_lexer.specs.declared.error.SyntaxFault.TheVariants.{EndOfText, BadCharacter, OpenString, BadEscape, BadNumber, BadToken}
use Rattle.gql_lexer.specs.declared.token.TokenKind.{TokenKind}
use Rattle.gql_lexer.specs.declared.token.TokenKind.TheVariants.{Punctuator, Name, IntValue, FloatValue, StringValue, Ignored}

-- ---- places behind an ASCII byte

abbrev Cut : Text → ℕ → Type 0
Cut at n = (n ≡ 0) ⊎ ((0 < n) × (n ≤ length at) × (get_or at (n - 1) 0 < 128))

cut-bound : (at : Text) (n : ℕ) → IsUtf8 at → Cut at n → IsCharBoundary at n
cut-bound at n u (inl h) = rw h (IsCharBoundary-start at u)
cut-bound at n u (inr h) =
    let e : n - 1 + 1 ≡ n = omega (arith, h.0) in
    rw e at (IsCharBoundary-after_ascii at (n - 1) u (omega (arith, h.0, h.1)) h.2)

step : (at : Text) (n b : ℕ) → get_or at n 0 ≡ b → 0 < b → b < 128 → Cut at (n + 1)
step at n b e some small =
    let f : n + 1 - 1 ≡ n = omega arith in
    inr (omega arith, omega (arith, within at n (omega (arith, e, some))), rw (f, e) small)

cut-choice : (at : Text) (b : Bool) (x y : ℕ) → (b ≡ true → Cut at x) → (b ≡ false → Cut at y) → Cut at (if b then x else y)
cut-choice at true x y p q = p refl
cut-choice at false x y p q = q refl

run-cut-by : (at : Text) (p : ℕ → Bool) → ((b : ℕ) → p b ≡ true → b < 128) → (from : ℕ) → Cut at from → from ≤ length at → (n : ℕ) → n ≡ prefix_len p (drop from at) → Cut at (from + n)
run-cut-by at p ascii from cut h zero e = rw (add-zero from) cut
run-cut-by at p ascii from cut h (suc n) e =
    let le : prefix_len p (drop from at) ≤ length (drop from at) = prefix_len-le-length p (drop from at) in
    let last : p (get_or (drop from at) n 0) ≡ true = prefix_len_passes p (drop from at) n 0 (omega (arith, e)) in
    let small : get_or at (from + n) 0 < 128 = ascii (get_or at (from + n) 0) (rw (get_or-drop from at n 0) at last) in
    let f : from + suc n - 1 ≡ from + n = omega arith in
    inr (omega arith, omega (arith, le, e, length-drop from at), rw f small)

-- behind a run of ASCII bytes
run-cut : (at : Text) (p : ℕ → Bool) → ((b : ℕ) → p b ≡ true → b < 128) → (from : ℕ) → Cut at from → from ≤ length at → Cut at (from + prefix_len p (drop from at))
run-cut at p ascii from cut h = run-cut-by at p ascii from cut h (prefix_len p (drop from at)) refl

number_digit : (b : ℕ) → is_digit b ≡ true → b < 128
number_digit b h = grind (arith, nat_tests)

name_byte : (b : ℕ) → is_name_continue b ≡ true → b < 128
name_byte b h = grind (arith, nat_tests)

cut-le : (at : Text) (n : ℕ) → Cut at n → n ≤ length at
cut-le at n (inl h) = omega (arith, h)
cut-le at n (inr h) = h.1

digits-cut : (at : Text) (from : ℕ) → Cut at from → Cut at (past bytes.Digit at from)
digits-cut at from cut = run-cut at is_digit number_digit from cut (cut-le at from cut)

sign-cut : (at : Text) → Cut at (sign_end at)
sign-cut at = cut-choice at (slice_index at 0 == 0x2D) 1 0 (λ e. step at 0 0x2D (eqb-true (slice_index at 0) 0x2D e) (omega arith) (omega arith)) (λ _. inl refl)

whole-cut : (at : Text) → Cut at (whole_end at)
unfolding whole_end
whole-cut at = cut-choice at (slice_index at (sign_end at) == 0x30) (sign_end at + 1) (past bytes.Digit at (sign_end at))
    (λ e. step at (sign_end at) 0x30 (eqb-true (slice_index at (sign_end at)) 0x30 e) (omega arith) (omega arith))
    (λ _. digits-cut at (sign_end at) (sign-cut at))

fraction-cut : (at : Text) (whole : ℕ) → Cut at whole → Cut at (fraction_end at whole)
unfolding fraction_end
fraction-cut at whole cut = cut-choice at (slice_index at whole == 0x2E) (past bytes.Digit at (whole + 1)) whole
    (λ e. digits-cut at (whole + 1) (step at whole 0x2E (eqb-true (slice_index at whole) 0x2E e) (omega arith) (omega arith)))
    (λ _. cut)

exponent_byte : (b : ℕ) → is_exponent b ≡ true → (0 < b) × (b < 128)
exponent_byte b h = grind (arith, nat_tests)

sign_byte : (b : ℕ) → is_sign b ≡ true → (0 < b) × (b < 128)
sign_byte b h = grind (arith, nat_tests)

start-cut : (at : Text) (from : ℕ) → is_exponent (slice_index at from) ≡ true → Cut at (exponent_start at from)
unfolding exponent_start
start-cut at from e = cut-choice at (is_sign (slice_index at (from + 1))) (from + 2) (from + 1)
    (λ s. let f : from + 1 + 1 ≡ from + 2 = omega arith in
    rw f at (step at (from + 1) (slice_index at (from + 1)) refl (sign_byte (slice_index at (from + 1)) s).0 (sign_byte (slice_index at (from + 1)) s).1))
    (λ _. step at from (slice_index at from) refl (exponent_byte (slice_index at from) e).0 (exponent_byte (slice_index at from) e).1)

exponent-cut : (at : Text) (from : ℕ) → Cut at from → Cut at (exponent_end at from)
unfolding exponent_end
exponent-cut at from cut = cut-choice at (is_exponent (slice_index at from)) (past bytes.Digit at (exponent_start at from)) from
    (λ e. digits-cut at (exponent_start at from) (start-cut at from e))
    (λ _. cut)

fraction_of-cut : (at : Text) → Cut at (fraction_of at)
fraction_of-cut at = fraction-cut at (whole_end at) (whole-cut at)

number-cut : (at : Text) → Cut at (number_end at)
number-cut at = exponent-cut at (fraction_of at) (fraction_of-cut at)

-- ---- places before an ASCII byte, or at the end

before : (at : Text) (n : ℕ) → n ≤ length at → (n < length at → get_or at n 0 < 128) → IsCharBoundary at n
before at n h small = (h, λ l big. absurd (omega (arith, small l)))

line_byte : (b : ℕ) → is_line b ≡ false → b < 128
line_byte b h = grind (arith, nat_tests)

control_byte : (b : ℕ) → is_source b ≡ false → b < 128
control_byte b h = grind (arith, nat_tests)

comment-bound : (at : Text) → 0 < length at → IsCharBoundary at (comment_end at)
comment-bound at some =
    let n = prefix_len is_line (drop 1 at) in
    let le : n ≤ length (drop 1 at) = prefix_len-le-length is_line (drop 1 at) in
    before at (1 + n) (omega (arith, le, length-drop 1 at)) (λ l.
    let stop : is_line (get_or (drop 1 at) n 0) ≡ false = prefix_len_stops is_line (drop 1 at) 0 (omega (arith, l, length-drop 1 at)) in
    line_byte (get_or at (1 + n) 0) (rw (get_or-drop 1 at n 0) at stop))

-- the end of the first character
leads : (b : ℕ) → is_continuation b ≡ false → 128 ≤ b → 192 ≤ b
leads b h big = grind (arith, nat_tests)

character-bound : (at : Text) → 0 < length at → IsCharBoundary at (1 + prefix_len is_continuation (drop 1 at))
character-bound at some =
    let n = prefix_len is_continuation (drop 1 at) in
    let le : n ≤ length (drop 1 at) = prefix_len-le-length is_continuation (drop 1 at) in (
      omega (arith, le, length-drop 1 at),
      λ l big.
          let stop : is_continuation (get_or (drop 1 at) n 0) ≡ false = prefix_len_stops is_continuation (drop 1 at) 0 (omega (arith, l, length-drop 1 at)) in
          leads (get_or at (1 + n) 0) (rw (get_or-drop 1 at n 0) at stop) big,
    )

ends_line-bound : (at : Text) (n : ℕ) → n ≤ length at → EndsLine at n → IsCharBoundary at n
ends_line-bound at n le (inl h) = before at n le (λ l. absurd (omega (arith, h, l)))
ends_line-bound at n le (inr (inl h)) = before at n le (λ l. omega (arith, h))
ends_line-bound at n le (inr (inr h)) = before at n le (λ l. omega (arith, h))

-- ---- classes

-- above ASCII only marks and other bytes are left
high_class : (b : ℕ) → 128 ≤ b → class_of b ≡ (if b == 0xEF then class.Mark else class.Other)
high_class b h =
    let name : is_name_start b ≡ false = grind (arith, nat_tests) in
    let number : (is_digit b || b == 0x2D) ≡ false = grind (arith, nat_tests) in
    let blank : is_blank b ≡ false = grind (arith, nat_tests) in
    let punctuator : is_punctuator b ≡ false = grind (arith, nat_tests) in
    let dot : (b == 0x2E) ≡ false = grind (arith, nat_tests) in
    let quote : (b == 0x22) ≡ false = grind (arith, nat_tests) in
    let comment : (b == 0x23) ≡ false = grind (arith, nat_tests) in
    let comma : (b == 0x2C) ≡ false = grind (arith, nat_tests) in
    rw (name, number, blank, punctuator, dot, quote, comment, comma) refl

below : (b : ℕ) → (b < 128) ⊎ (128 ≤ b)
below b = grind arith

high_is : (b : ℕ) → 128 ≤ b → (class_of b ≡ class.Mark) ⊎ (class_of b ≡ class.Other)
high_is b h = elim (bool_cases (b == 0xEF)) [
  | inl w ↦ (let e : (if b == 0xEF then class.Mark else class.Other) ≡ class.Mark = rw w refl in inl (high_class b h ∙ e))
  | inr w ↦ (let e : (if b == 0xEF then class.Mark else class.Other) ≡ class.Other = rw w refl in inr (high_class b h ∙ e))
]

-- a byte of another class is ASCII
ascii : (b : ℕ) (c : ByteClass) → class_of b ≡ c → (class.Mark ≡ c → ⊥) → (class.Other ≡ c → ⊥) → (0 < b) × (b < 128)
ascii zero c e mark other = absurd (other e)
ascii (suc n) c e mark other = (
  omega arith,
  elim (below (suc n)) [
    | inl h ↦ h
    | inr h ↦ absurd (elim (high_is (suc n) h) [ inl w ↦ mark (sym w ∙ e) | inr w ↦ other (sym w ∙ e) ])
  ],
)

punctuator_byte : (b : ℕ) → class_of b ≡ class.Punctuator → (0 < b) × (b < 128)
punctuator_byte b e = ascii b class.Punctuator e (λ h. cc) (λ h. cc)

comma_byte : (b : ℕ) → class_of b ≡ class.Comma → (0 < b) × (b < 128)
comma_byte b e = ascii b class.Comma e (λ h. cc) (λ h. cc)

-- ---- white space and byte order marks

blank_byte : (b : ℕ) → is_blank b ≡ true → (0 < b) × (b < 128)
blank_byte b h = grind (arith, nat_tests)

blank-one : (at : Text) → is_blank (slice_index at 0) ≡ true → blank_len at ≡ 1
unfolding blank_len
blank-one at h = rw h refl

blank-mark : (at : Text) → is_blank (slice_index at 0) ≡ false → is_mark at ≡ true → blank_len at ≡ 3
unfolding blank_len
blank-mark at h m = rw (h, m) refl

blank-none : (at : Text) → is_blank (slice_index at 0) ≡ false → is_mark at ≡ false → blank_len at ≡ 0
unfolding blank_len
blank-none at h m = rw (h, m) refl

three : (at : Text) → 3 ≤ length at → at ≡ get_or at 0 0 ∷ get_or at 1 0 ∷ get_or at 2 0 ∷ drop 3 at
three [] h = absurd (omega arith)
three (a ∷ []) h = absurd (omega arith)
three (a ∷ b ∷ []) h = absurd (omega arith)
three (a ∷ b ∷ c ∷ at) h = refl

mark_rest : (at : Text) → IsUtf8 at → is_mark at ≡ true → IsUtf8 (drop 3 at)
unfolding encode
mark_rest at u m =
    let front : Bool = slice_index at 0 == 0xEF && slice_index at 1 == 0xBB in
    let p = both front (slice_index at 2 == 0xBF) m in
    let q = both (slice_index at 0 == 0xEF) (slice_index at 1 == 0xBB) p.0 in
    let a = eqb-true (slice_index at 0) 0xEF q.0 in
    let b = eqb-true (slice_index at 1) 0xBB q.1 in
    let c = eqb-true (slice_index at 2) 0xBF p.1 in
    let spelled : at ≡ encode_utf8 0xFEFF ++ drop 3 at = three at (omega (arith, within at 2 (omega (arith, c)))) ∙ rw (a, b, c) refl in
    IsUtf8-past_char at (drop 3 at) 0xFEFF u spelled

abbrev BlanksEnd : Text → Type 0
BlanksEnd at = IsCharBoundary at (run_len blank_len at)

blank-step : (at : Text) (n : ℕ) → blank_len at ≡ n → 0 < n → IsUtf8 (drop n at) → ((s : Text) → length s < length at → IsUtf8 s → BlanksEnd s) → BlanksEnd at
blank-step at n e some u shorter =
    let le : n ≤ length at = omega (arith, e, blank_len-le at) in
    let more : run_len blank_len at ≡ n + run_len blank_len (drop n at) =
    rw e at (run_len-item blank_len at (omega (arith, e, some)) (blank_len-le at)) in
    rw more (IsCharBoundary-from_rest at n (run_len blank_len (drop n at)) le (shorter (drop n at) (omega (arith, length-drop n at)) u))

blank-case : (at : Text) → IsUtf8 at → ((s : Text) → length s < length at → IsUtf8 s → BlanksEnd s) → BlanksEnd at
blank-case at u shorter = elim (bool_cases (is_blank (slice_index at 0))) [
  | inl b ↦ blank-step at 1 (blank-one at b) (omega arith)
      (IsUtf8-drop at 1 u (IsCharBoundary-after_ascii at 0 u (within at 0 (blank_byte (slice_index at 0) b).0) (blank_byte (slice_index at 0) b).1)) shorter
  | inr b ↦ elim (bool_cases (is_mark at)) [
    | inl m ↦ blank-step at 3 (blank-mark at b m) (omega arith) (mark_rest at u m) shorter
    | inr m ↦ rw (run_len-none blank_len at (blank-none at b m)) (IsCharBoundary-start at u)
  ]
]

blanks-end : (fuel : ℕ) (at : Text) → length at ≤ fuel → IsUtf8 at → BlanksEnd at
blanks-end zero at h u = blank-case at u (λ s l v. absurd (omega (arith, l, h)))
blanks-end (suc fuel) at h u = blank-case at u (λ s l v. blanks-end fuel s (omega (arith, l, h)) v)

-- ---- tokens and faults

quote-cut : (at : Text) (n : ℕ) → is_block_quote at n ≡ true → Cut at (n + 3)
quote-cut at n h =
    let front : Bool = slice_index at n == 0x22 && slice_index at (n + 1) == 0x22 in
    let p = both front (slice_index at (n + 2) == 0x22) h in
    let e : n + 2 + 1 ≡ n + 3 = omega arith in
    rw e at (step at (n + 2) 0x22 (eqb-true (slice_index at (n + 2)) 0x22 p.1) (omega arith) (omega arith))

spread-cut : (at : Text) → is_spread at ≡ true → Cut at 3
spread-cut at h =
    let p = both (slice_index at 1 == 0x2E) (slice_index at 2 == 0x2E) h in
    step at 2 0x2E (eqb-true (slice_index at 2) 0x2E p.1) (omega arith) (omega arith)

name-cut : (at : Text) → Cut at (prefix_len is_name_continue at)
name-cut at =
    let e : 0 + prefix_len is_name_continue at ≡ prefix_len is_name_continue at = zero-add (prefix_len is_name_continue at) in
    rw e at (run-cut at is_name_continue name_byte 0 (inl refl) (omega arith))

first-cut : (at : Text) → (0 < slice_index at 0) × (slice_index at 0 < 128) → Cut at 1
first-cut at h = step at 0 (slice_index at 0) refl h.0 h.1

-- a token ends between two characters
pub token-bound : (kind : TokenKind) (at : Text) (n : ℕ) → IsUtf8 at → 0 < length at → IsToken kind at n → IsCharBoundary at n
token-bound Punctuator at n u some (inl h) = rw h.1 (cut-bound at 1 u (first-cut at (punctuator_byte (slice_index at 0) h.0)))
token-bound Punctuator at n u some (inr h) = rw h.2 (cut-bound at 3 u (spread-cut at h.1))
token-bound Name at n u some h = rw h.1 (cut-bound at (prefix_len is_name_continue at) u (name-cut at))
token-bound IntValue at n u some h = rw h.0.ends (cut-bound at (number_end at) u (number-cut at))
token-bound FloatValue at n u some h = rw h.0.ends (cut-bound at (number_end at) u (number-cut at))
token-bound StringValue at n u some (inl h) = rw h.2 (cut-bound at (string_end at + 1) u (step at (string_end at) 0x22 h.1 (omega arith) (omega arith)))
token-bound StringValue at n u some (inr h) = rw h.2 (cut-bound at (block_end at + 3) u (quote-cut at (block_end at) h.1))
token-bound Ignored at n u some (inl h) = rw h.1 (blanks-end (length at) at (omega arith) u)
token-bound Ignored at n u some (inr (inl h)) = rw h.1 (cut-bound at 1 u (first-cut at (comma_byte (slice_index at 0) h.0)))
token-bound Ignored at n u some (inr (inr h)) = rw h.2 (comment-bound at some)

abbrev Bounds : Text → ℕ → ℕ → Type 0
Bounds at start end = IsCharBoundary at start × IsCharBoundary at end

breaks-bound : (at : Text) (end : ℕ) → IsUtf8 at → BreaksAt at end → IsCharBoundary at end
breaks-bound at end u (inl h) = rw h.1 (cut-bound at (whole_end at) u (whole-cut at))
breaks-bound at end u (inr (inl h)) = rw h.2 (cut-bound at (fraction_of at) u (fraction_of-cut at))
breaks-bound at end u (inr (inr (inl h))) = rw h.3 (cut-bound at (number_end at) u (number-cut at))
breaks-bound at end u (inr (inr (inr h))) = rw h.4 (cut-bound at (number_end at) u (number-cut at))

-- so does a fault, and it begins between two
pub fault-bound : (what : SyntaxFault) (at : Text) (start end : ℕ) → IsUtf8 at → 0 < length at → end ≤ length at → IsFault what at start end → Bounds at start end
fault-bound BadCharacter at start end u some le (inl h) = (rw h.1 (IsCharBoundary-start at u), rw h.2 (character-bound at some))
fault-bound BadCharacter at start end u some le (inr h) =
    let small : get_or at start 0 < 128 = control_byte (get_or at start 0) h.1.1 in
    (before at start (omega (arith, h.1.0)) (λ _. small), rw h.2 (IsCharBoundary-after_ascii at start u h.1.0 small))
fault-bound OpenString at start end u some le (inl h) =
    (rw h.2 (IsCharBoundary-start at u), rw h.3 (ends_line-bound at (string_end at) (rw h.3 at le) h.1))
fault-bound OpenString at start end u some le (inr h) =
    (rw h.2 (IsCharBoundary-start at u), rw h.3 (ends_line-bound at (block_end at) (rw h.3 at le) (inl h.1)))
fault-bound BadEscape at start end u some le h =
    (before at start (omega (arith, h.3, le)) (λ _. omega (arith, h.2)), rw h.3 (cut-bound at (start + 1) u (step at start 0x5C h.2 (omega arith) (omega arith))))
fault-bound BadNumber at start end u some le h = (rw h.1 (IsCharBoundary-start at u), breaks-bound at end u h.2)
fault-bound EndOfText at start end u some le h = elim h [ ]
fault-bound BadToken at start end u some le h = elim h [ ]
