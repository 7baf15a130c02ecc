-- No item is longer than the text that it begins.
use Rattle.std.proofs.Common.{◌≡◌, ℕ, zero, suc, ◌+◌, ◌<◌, ◌≤◌, Bool, true, false, not, ◌&&◌, ◌||◌, length, get_or, arith}
use Rattle.std.specs.Prelude.{if◌then◌else◌, ◌==◌, nat_lt}
use Rattle.std.proofs.lemmas.Bool.{eqb-true}
use Rattle.gql_lexer.specs.Class.{Text, is_blank, is_line, is_source}
use Rattle.gql_lexer.specs.Lex.{is_mark, is_block_quote, blank_len, string_len, block_len, hex_value, is_unit, unit, is_unit_escape, unicode_escape_len, is_escaped, is_low_surrogate, is_high_surrogate}
use Rattle.gql_lexer.proofs.Choices.{both, neither, choice, within}

-- these tests fail at the 0 that stands past the end
blank_some : (b : ℕ) → is_blank b ≡ true → 0 < b
blank_some zero h = absurd (let f : false ≡ true = h in cc)
blank_some (suc b) h = omega arith

source_some : (b : ℕ) → is_source b ≡ true → 0 < b
source_some zero h = absurd (let f : false ≡ true = h in cc)
source_some (suc b) h = omega arith

line_some : (b : ℕ) → (is_line b && not (b == 0x22)) ≡ true → 0 < b
line_some zero h = absurd (let f : false ≡ true = h in cc)
line_some (suc b) h = omega arith

escaped_some : (b : ℕ) → is_escaped b ≡ true → 0 < b
escaped_some zero h = absurd (let f : false ≡ true = h in cc)
escaped_some (suc b) h = omega arith

hex_some : (b : ℕ) → nat_lt (hex_value b) 16 ≡ true → 0 < b
hex_some zero h = absurd (let f : false ≡ true = h in cc)
hex_some (suc b) h = omega arith

equal_within : (at : Text) (i b : ℕ) → 0 < b → (get_or at i 0 == b) ≡ true → i < length at
equal_within at i b some h = within at i (omega (arith, eqb-true (get_or at i 0) b h))

mark_within : (at : Text) → is_mark at ≡ true → 3 ≤ length at
mark_within at h =
    omega (arith, equal_within at 2 0xBF (omega arith) (both (get_or at 0 0 == 0xEF && get_or at 1 0 == 0xBB) (get_or at 2 0 == 0xBF) h).1)

pub quote_within : (at : Text) (from : ℕ) → is_block_quote at from ≡ true → from + 3 ≤ length at
quote_within at from h =
    omega (arith, equal_within at (from + 2) 0x22 (omega arith) (both (get_or at from 0 == 0x22 && get_or at (from + 1) 0 == 0x22) (get_or at (from + 2) 0 == 0x22) h).1)

unit_within : (at : Text) (from : ℕ) → is_unit at from ≡ true → from + 4 ≤ length at
unfolding is_unit
unit_within at from h =
    let front : Bool = nat_lt (hex_value (get_or at from 0)) 16 && nat_lt (hex_value (get_or at (from + 1) 0)) 16 && nat_lt (hex_value (get_or at (from + 2) 0)) 16 in
    omega (arith, within at (from + 3) (hex_some (get_or at (from + 3) 0) (both front (nat_lt (hex_value (get_or at (from + 3) 0)) 16) h).1))

escape_within : (at : Text) (from : ℕ) → is_unit_escape at from ≡ true → from + 6 ≤ length at
escape_within at from h =
    omega (arith, unit_within at (from + 2) (both (get_or at from 0 == 0x5C && get_or at (from + 1) 0 == 0x75) (is_unit at (from + 2)) h).1)

pub blank_len-le : (at : Text) → blank_len at ≤ length at
unfolding blank_len
blank_len-le at =
    choice (is_blank (get_or at 0 0)) 1 (if is_mark at then 3 else 0) (length at) (λ p. within at 0 (blank_some (get_or at 0 0) p)) (λ _.
    choice (is_mark at) 3 0 (length at) (mark_within at) (λ _. omega arith))

pub block_len-le : (at : Text) → block_len at ≤ length at
unfolding block_len
block_len-le at =
    let escape : Bool = get_or at 0 0 == 0x5C && is_block_quote at 1 in
    choice (is_block_quote at 0) 0 (if escape then 4 else if is_source (get_or at 0 0) then 1 else 0) (length at) (λ _. omega arith) (λ _.
    choice escape 4 (if is_source (get_or at 0 0) then 1 else 0) (length at) (λ p. omega (arith, quote_within at 1 (both (get_or at 0 0 == 0x5C) (is_block_quote at 1) p).1)) (λ _.
    choice (is_source (get_or at 0 0)) 1 0 (length at) (λ p. within at 0 (source_some (get_or at 0 0) p)) (λ _. omega arith)))

unicode_escape_len-le : (at : Text) → unicode_escape_len at ≤ length at
unfolding unicode_escape_len
unicode_escape_len-le at =
    let pair : Bool = is_unit_escape at 6 && is_low_surrogate (unit at 8) in
    let none : Bool = not (is_unit_escape at 0) || is_low_surrogate (unit at 2) in
    let low : ℕ = if pair then 12 else 0 in
    choice none 0 (if not (is_high_surrogate (unit at 2)) then 6 else low) (length at) (λ _. omega arith) (λ p.
    choice (not (is_high_surrogate (unit at 2))) 6 low (length at) (λ _. escape_within at 0 (neither (is_unit_escape at 0) (is_low_surrogate (unit at 2)) p).0) (λ _.
    choice pair 12 0 (length at) (λ q. escape_within at 6 (both (is_unit_escape at 6) (is_low_surrogate (unit at 8)) q).0) (λ _. omega arith)))

pub string_len-le : (at : Text) → string_len at ≤ length at
unfolding string_len
string_len-le at =
    let escape : ℕ = if is_escaped (get_or at 1 0) then 2 else unicode_escape_len at in
    let plain : Bool = is_line (get_or at 0 0) && not (get_or at 0 0 == 0x22) in
    choice (get_or at 0 0 == 0x5C) escape (if plain then 1 else 0) (length at)
    (λ _. choice (is_escaped (get_or at 1 0)) 2 (unicode_escape_len at) (length at) (λ p. within at 1 (escaped_some (get_or at 1 0) p)) (λ _. unicode_escape_len-le at))
    (λ _. choice plain 1 0 (length at) (λ p. within at 0 (line_some (get_or at 0 0) p)) (λ _. omega arith))
