-- The value of a row of characters and escapes: a run of plain bytes, an escape, or the end.
use Rattle.std.proofs.Common.{◌≡◌, ℕ, zero, suc, ◌+◌, ◌-◌, ◌*◌, ◌<◌, ◌≤◌, ◌⊎◌, inl, inr, Bool, true, false, not, ◌&&◌, ◌||◌, cond, List, [], ◌∷◌, ◌++◌, length, take, drop, get_or, refl, sym, ◌∙◌, ap, arith, append_assoc}
use Rattle.std.specs.Prelude.{if◌then◌else◌, ◌==◌, slice_index, nat_lt, nat_le, encode_utf8}
use Rattle.std.specs.List.{prefix_len}
use Rattle.std.specs.Char.{InScalarRange}
use Rattle.std.proofs.lemmas.List.{get_or-drop, get_or_past, append-nil}
use Rattle.std.proofs.lemmas.List.Sums.{prefix_len_stops}
use Rattle.std.proofs.lemmas.Bool.{eqb-true, ltb-true, leb-true, cases_lt}
use Rattle.std.proofs.lemmas.Bool.Decides.{nat_tests}
use Rattle.gql_lexer.specs.Class.{Text, is_line, is_plain}
use Rattle.gql_lexer.specs.Lex.{string_len, unicode_escape_len, is_unit, unit, is_unit_escape, is_escaped, is_low_surrogate, is_high_surrogate, hex_value}
use Rattle.gql_lexer.specs.Value.{item_value, escape_value, escaped_character, values_from, values}
use Rattle.gql_lexer.specs.bridge.Value.{IsEscape}
use Rattle.gql_lexer.proofs.Choices.{both, bool_cases, not_true, and_true, not_zero}
use Rattle.gql_lexer.proofs.Lengths.{string_len-le}

values_from-drop : (n : ℕ) (at : Text) → n ≤ length at → values_from n at ≡ values_from 0 (drop n at)
values_from-drop zero at h = refl
values_from-drop (suc n) [] h = absurd (omega arith)
values_from-drop (suc n) (b ∷ at) h = values_from-drop n at (omega arith)

item_then-rest : (value : List ℕ) (b : ℕ) (at : Text) (n : ℕ) → 0 < n → n ≤ suc (length at)
    → (if n == 0 then [] else value ++ values_from (n - 1) at) ≡ value ++ values_from 0 (drop n (b ∷ at))
item_then-rest value b at zero some h = absurd (omega arith)
item_then-rest value b at (suc n) some h =
    let e : suc n - 1 ≡ n = omega arith in
    rw (not_zero n, e) (ap (λ l. value ++ l) (values_from-drop n at (omega arith)))

pub values-item : (at : Text) → 0 < string_len at → values at ≡ item_value at ++ values (drop (string_len at) at)
unfolding values
values-item [] some = absurd (omega (arith, string_len-le []))
values-item (b ∷ at) some = item_then-rest (item_value (b ∷ at)) b at (string_len (b ∷ at)) some (string_len-le (b ∷ at))

pub values-none : (at : Text) → string_len at ≡ 0 → values at ≡ []
unfolding values
values-none [] h = refl
values-none (b ∷ at) h = rw h refl

-- a plain byte is an item of its own
plain_len : (at : Text) → is_plain (slice_index at 0) ≡ true → string_len at ≡ 1
unfolding string_len
plain_len at h =
    let p = both (is_line (slice_index at 0) && not (slice_index at 0 == 0x22)) (not (slice_index at 0 == 0x5C)) h in
    rw (not_true (slice_index at 0 == 0x5C) p.1, p.0) refl

plain_value : (at : Text) → is_plain (slice_index at 0) ≡ true → item_value at ≡ slice_index at 0 ∷ []
plain_value at h =
    let p = both (is_line (slice_index at 0) && not (slice_index at 0 == 0x22)) (not (slice_index at 0 == 0x5C)) h in
    rw (not_true (slice_index at 0 == 0x5C) p.1) refl

plain_by : (b : ℕ) (at : Text) (v : Bool) → is_plain b ≡ v → values at ≡ take (prefix_len is_plain at) at ++ values (drop (prefix_len is_plain at) at)
    → values (b ∷ at) ≡ take (cond v (1 + prefix_len is_plain at) 0) (b ∷ at) ++ values (drop (cond v (1 + prefix_len is_plain at) 0) (b ∷ at))
plain_by b at false e more = refl
plain_by b at true e more =
    let f : 1 + prefix_len is_plain at ≡ suc (prefix_len is_plain at) = omega arith in
    let some : 0 < string_len (b ∷ at) = omega (arith, plain_len (b ∷ at) e) in
    rw f (values-item (b ∷ at) some ∙ rw (plain_len (b ∷ at) e, plain_value (b ∷ at) e) (ap (λ l. b ∷ l) more))

-- a run of plain bytes stands for itself
pub values-plain : (at : Text) → values at ≡ take (prefix_len is_plain at) at ++ values (drop (prefix_len is_plain at) at)
values-plain [] = refl
values-plain (b ∷ at) = plain_by b at (is_plain b) refl (values-plain at)

-- ---- where plain bytes end

pub plain-stops : (s : Text) → is_plain (slice_index (drop (prefix_len is_plain s) s) 0) ≡ false
plain-stops s =
    let n = prefix_len is_plain s in
    let e : get_or (drop n s) 0 0 ≡ get_or s n 0 = get_or-drop n s 0 0 ∙ ap (λ i. get_or s i 0) (let f : n + 0 ≡ n = omega arith in f) in
    rw e (elim (cases_lt n (length s)) [
      | inl h ↦ prefix_len_stops is_plain s 0 h
      | inr h ↦ rw (get_or_past s n 0 h) refl
    ])

no_plain : (at : Text) → is_plain (slice_index at 0) ≡ false → (slice_index at 0 == 0x5C) ≡ false → string_len at ≡ 0
unfolding string_len
no_plain at plain b =
    let p : (is_line (slice_index at 0) && not (slice_index at 0 == 0x22)) ≡ false =
    and_true (is_line (slice_index at 0) && not (slice_index at 0 == 0x22)) (rw b at plain) in
    rw (b, p) refl

-- neither a plain byte nor an escape: no item begins there
pub no_item : (at : Text) → is_plain (slice_index at 0) ≡ false → (slice_index at 0 ≡ 0x5C → string_len at ≡ 0) → string_len at ≡ 0
no_item at plain escape = elim (bool_cases (slice_index at 0 == 0x5C)) [
  | inl b ↦ escape (eqb-true (slice_index at 0) 0x5C b)
  | inr b ↦ no_plain at plain b
]

-- ---- escapes

units : (a b c d : ℕ) → a < 16 → b < 16 → c < 16 → d < 16 → ((a * 16 + b) * 16 + c) * 16 + d ≤ 0xFFFF
units a b c d p q r s = omega arith

unit_small : (at : Text) (from : ℕ) → is_unit at from ≡ true → unit at from ≤ 0xFFFF
unfolding is_unit unit
unit_small at from h =
    let a : Bool = nat_lt (hex_value (get_or at from 0)) 16 in
    let b : Bool = nat_lt (hex_value (get_or at (from + 1) 0)) 16 in
    let c : Bool = nat_lt (hex_value (get_or at (from + 2) 0)) 16 in
    let d : Bool = nat_lt (hex_value (get_or at (from + 3) 0)) 16 in
    let p = both (a && b && c) d h in
    let q = both (a && b) c p.0 in
    let r = both a b q.0 in
    units (hex_value (get_or at from 0)) (hex_value (get_or at (from + 1) 0)) (hex_value (get_or at (from + 2) 0)) (hex_value (get_or at (from + 3) 0))
    (ltb-true (hex_value (get_or at from 0)) 16 r.0) (ltb-true (hex_value (get_or at (from + 1) 0)) 16 r.1)
    (ltb-true (hex_value (get_or at (from + 2) 0)) 16 q.1) (ltb-true (hex_value (get_or at (from + 3) 0)) 16 p.1)

escape_len : (at : Text) → slice_index at 0 ≡ 0x5C → is_escaped (slice_index at 1) ≡ false → string_len at ≡ unicode_escape_len at
unfolding string_len
escape_len at b e = rw (b, e) refl

simple_len : (at : Text) → slice_index at 0 ≡ 0x5C → is_escaped (slice_index at 1) ≡ true → string_len at ≡ 2
unfolding string_len
simple_len at b e = rw (b, e) refl

abbrev length_by : Bool → Bool → Bool → Bool → Bool → ℕ
length_by escape low high more after = if not escape || low then 0 else if not high then 6 else if more && after then 12 else 0

ways : (escape low high more after : Bool) → 0 < length_by escape low high more after
    → ((length_by escape low high more after ≡ 6) × (escape ≡ true) × (low ≡ false) × (high ≡ false))
    ⊎ ((length_by escape low high more after ≡ 12) × (more ≡ true) × (high ≡ true) × (after ≡ true))
ways false low high more after h = absurd (omega arith)
ways true true high more after h = absurd (omega arith)
ways true false false more after h = inl (refl, refl, refl, refl)
ways true false true false after h = absurd (omega arith)
ways true false true true false h = absurd (omega arith)
ways true false true true true h = inr (refl, refl, refl, refl)

-- the two ways in which an escape by code units is one
unicode : (at : Text) → 0 < unicode_escape_len at
    → ((unicode_escape_len at ≡ 6) × (is_unit_escape at 0 ≡ true) × (is_low_surrogate (unit at 2) ≡ false) × (is_high_surrogate (unit at 2) ≡ false))
    ⊎ ((unicode_escape_len at ≡ 12) × (is_unit_escape at 6 ≡ true) × (is_high_surrogate (unit at 2) ≡ true) × (is_low_surrogate (unit at 8) ≡ true))
unfolding unicode_escape_len
unicode at some = ways (is_unit_escape at 0) (is_low_surrogate (unit at 2)) (is_high_surrogate (unit at 2)) (is_unit_escape at 6) (is_low_surrogate (unit at 8)) some

scalar_single : (u : ℕ) → u ≤ 0xFFFF → is_low_surrogate u ≡ false → is_high_surrogate u ≡ false → InScalarRange u
scalar_single u small low high = grind (arith, nat_tests)

scalar_pair : (u v : ℕ) → is_high_surrogate u ≡ true → is_low_surrogate v ≡ true → InScalarRange (0x1_0000 + (u - 0xD800) * 0x400 + (v - 0xDC00))
scalar_pair u v high low =
    let h = both (nat_le 0xD800 u) (nat_le u 0xDBFF) high in
    let l = both (nat_le 0xDC00 v) (nat_le v 0xDFFF) low in
    let a : 0xD800 ≤ u = leb-true 0xD800 u h.0 in
    let b : u ≤ 0xDBFF = leb-true u 0xDBFF h.1 in
    let c : 0xDC00 ≤ v = leb-true 0xDC00 v l.0 in
    let d : v ≤ 0xDFFF = leb-true v 0xDFFF l.1 in
    inr (omega arith, omega arith)

pub scalar : (at : Text) → slice_index at 0 ≡ 0x5C → is_escaped (slice_index at 1) ≡ false → 0 < string_len at → InScalarRange (escaped_character at)
unfolding escaped_character
scalar at b e some = elim (unicode at (omega (arith, escape_len at b e, some))) [
  | inl w ↦ rw w.3 (scalar_single (unit at 2) (unit_small at 2 (both (slice_index at 0 == 0x5C && slice_index at 1 == 0x75) (is_unit at 2) w.1).1) w.2 w.3)
  | inr w ↦ rw w.2 (scalar_pair (unit at 2) (unit at 8) w.2 w.3)
]

hex_byte : (b : ℕ) → nat_lt (hex_value b) 16 ≡ true → b < 128
hex_byte b h = grind (arith, nat_tests)

escaped_byte : (b : ℕ) → is_escaped b ≡ true → b < 128
escaped_byte b h = grind (arith, nat_tests)

last_digit : (at : Text) (from : ℕ) → is_unit at from ≡ true → get_or at (from + 3) 0 < 128
unfolding is_unit
last_digit at from h =
    let front : Bool = nat_lt (hex_value (get_or at from 0)) 16 && nat_lt (hex_value (get_or at (from + 1) 0)) 16 && nat_lt (hex_value (get_or at (from + 2) 0)) 16 in
    hex_byte (get_or at (from + 3) 0) (both front (nat_lt (hex_value (get_or at (from + 3) 0)) 16) h).1

-- an escape ends in an ASCII byte
escape_ends : (at : Text) → slice_index at 0 ≡ 0x5C → 0 < string_len at → slice_index at (string_len at - 1) < 128
escape_ends at b some = elim (bool_cases (is_escaped (slice_index at 1))) [
  | inl e ↦ (let l : string_len at ≡ 2 = simple_len at b e in rw l (escaped_byte (get_or at 1 0) e))
  | inr e ↦ (let l : string_len at ≡ unicode_escape_len at = escape_len at b e in elim (unicode at (omega (arith, l, some))) [
    | inl w ↦ (let m : string_len at ≡ 6 = l ∙ w.0 in rw m (last_digit at 2 (both (slice_index at 0 == 0x5C && slice_index at 1 == 0x75) (is_unit at 2) w.1).1))
    | inr w ↦ (let m : string_len at ≡ 12 = l ∙ w.0 in rw m (last_digit at 8 (both (slice_index at 6 == 0x5C && slice_index at 7 == 0x75) (is_unit at 8) w.1).1))
  ])
]

backslash_value : (at : Text) → slice_index at 0 ≡ 0x5C → item_value at ≡ encode_utf8 (escape_value at)
backslash_value at b = rw b refl

pub is_escape : (at : Text) → slice_index at 0 ≡ 0x5C → 0 < string_len at → IsEscape at (escape_value at) (string_len at)
is_escape at b some = record {
  is = refl;
  some = some;
  within = string_len-le at;
  value = backslash_value at b;
  ascii = escape_ends at b some;
}

-- ---- the value, piece by piece

piece : (out rest plain behind all : Text) → out ++ values rest ≡ all → plain ≡ take (prefix_len is_plain rest) rest → behind ≡ drop (prefix_len is_plain rest) rest
    → (out ++ plain) ++ values behind ≡ all
piece out rest plain behind all so_far front back =
    let e : values rest ≡ plain ++ values behind = rw (front, back) (values-plain rest) in
    append_assoc out plain (values behind) ∙ ap (λ l. out ++ l) (sym e) ∙ so_far

pub last_piece : (out rest plain behind all : Text) → out ++ values rest ≡ all → plain ≡ take (prefix_len is_plain rest) rest → behind ≡ drop (prefix_len is_plain rest) rest
    → string_len behind ≡ 0 → out ++ plain ≡ all
last_piece out rest plain behind all so_far front back none =
    sym (append-nil (out ++ plain)) ∙ ap (λ l. (out ++ plain) ++ l) (sym (values-none behind none)) ∙ piece out rest plain behind all so_far front back

pub next_piece : (out rest plain behind all : Text) (character len : ℕ) → out ++ values rest ≡ all → plain ≡ take (prefix_len is_plain rest) rest → behind ≡ drop (prefix_len is_plain rest) rest
    → IsEscape behind character len → ((out ++ plain) ++ encode_utf8 character) ++ values (drop len behind) ≡ all
next_piece out rest plain behind all character len so_far front back escape =
    let e : values behind ≡ encode_utf8 character ++ values (drop len behind) =
    rw (escape.is, escape.value) at (values-item behind (omega (arith, escape.is, escape.some))) in
    append_assoc (out ++ plain) (encode_utf8 character) (values (drop len behind)) ∙ ap (λ l. (out ++ plain) ++ l) (sym e) ∙ piece out rest plain behind all so_far front back
