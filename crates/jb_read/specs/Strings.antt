-- Strings (RFC 8259, section 7), from behind the quote that opens them.
use Rattle.std.specs.Prelude.{ℕ, suc, ◌+◌, ◌-◌, ◌*◌, Bool, true, false, ◌&&◌, ◌||◌, ◌==◌, nat_lt, nat_le}
use Rattle.std.specs.Prelude.{if◌then◌else◌, List, [], ◌∷◌, ◌++◌, length, take, drop, Option, Some, None, is_none, Result, Ok, Err}
use Rattle.std.specs.Prelude.{encode_utf8}
use Rattle.std.specs.List.{position_or_len}
use Rattle.std.specs.Str.{is_utf8}
use Rattle.std.specs.Str.Lossy.{utf8_valid_len, utf8_error_len}
use Rattle.jb_read.specs.declared.fault.Broken.{Broken}
use Rattle.jb_read.specs.declared.fault.FaultKind.TheVariants.{Syntax}
use Rattle.jb_read.specs.Reading.{broken, fails, ◌>>=◌, byte_at, turns}

-- a quote, a backslash or a control: what doesn't stand for itself
abbrev pub is_special : ℕ → Bool
is_special b = (b == 34) || (b == 92) || nat_lt b 32

-- how many bytes at the front stand for themselves, they, and what is left
abbrev pub plain_length : List ℕ → ℕ
plain_length at = position_or_len is_special at

abbrev pub plain_front : List ℕ → List ℕ
plain_front at = take (plain_length at) at

abbrev pub behind_plain : List ℕ → List ℕ
behind_plain at = drop (plain_length at) at

-- where plain bytes that are no UTF-8 break: at the first sequence that is ill-formed, or at the text's end where
-- more bytes could have completed it
abbrev pub ill_formed_at : List ℕ → List ℕ
ill_formed_at at = let front = plain_front at in let valid = utf8_valid_len front in
    if (length (behind_plain at) == 0) && is_none (utf8_error_len (drop valid front)) then [] else drop valid at

-- the plain characters at the front
unfoldable pub run_at : List ℕ → Result (List ℕ × List ℕ) Broken
run_at at = if is_utf8 (plain_front at) then Ok (plain_front at, behind_plain at) else fails Syntax (ill_formed_at at)

-- the value of a hexadecimal digit
abbrev pub hex_value : ℕ → Option ℕ
hex_value b = if nat_le 48 b && nat_le b 57 then Some (b - 48)
    else (if nat_le 97 b && nat_le b 102 then Some (b - 87)
    else (if nat_le 65 b && nat_le b 70 then Some (b - 55) else None))

unfoldable pub hex_digit_at : List ℕ → Result (ℕ × List ℕ) Broken
hex_digit_at [] = fails Syntax []
hex_digit_at (b ∷ at) = elim (hex_value b) [ None ↦ fails Syntax (b ∷ at) | Some d ↦ Ok (d, at) ]

-- the four digits behind \u
unfoldable pub hex_at : List ℕ → Result (ℕ × List ℕ) Broken
hex_at at = do
  a ← hex_digit_at at
  b ← hex_digit_at a.1
  c ← hex_digit_at b.1
  d ← hex_digit_at c.1
  Ok (((a.0 * 16 + b.0) * 16 + c.0) * 16 + d.0, d.1)

abbrev pub is_high : ℕ → Bool
is_high unit = nat_le 0xD800 unit && nat_lt unit 0xDC00

abbrev pub is_low : ℕ → Bool
is_low unit = nat_le 0xDC00 unit && nat_lt unit 0xE000

-- the character that two surrogates stand for (Unicode, section 3.9, UTF-16)
abbrev pub pair_char : ℕ → ℕ → ℕ
pair_char high low = 0x10000 + (high - 0xD800) * 0x400 + (low - 0xDC00)

-- the escape of a low surrogate
unfoldable pub low_at : List ℕ → Result (ℕ × List ℕ) Broken
low_at at = do
  backslash ← byte_at 92 at
  letter ← byte_at 117 backslash.1
  unit ← hex_at letter.1
  if is_low unit.0 then Ok unit else fails Syntax at

-- the character of a high surrogate and of the low one that must follow; without it the fault is the escape's own,
-- at its backslash, or stands at the text's end where that comes before the next escape is read
unfoldable pub pair_at : Broken → ℕ → List ℕ → Result (ℕ × List ℕ) Broken
pair_at own high at = elim (low_at at) [
  | Ok low ↦ Ok (pair_char high low.0, low.1)
  | Err e ↦ if e.left == 0 then Err e else Err own
]

-- the character behind \u, where own is the fault of the whole escape
unfoldable pub unicode_at : Broken → List ℕ → Result (ℕ × List ℕ) Broken
unicode_at own at = do
  unit ← hex_at at
  if is_high unit.0 then pair_at own unit.0 unit.1 else (if is_low unit.0 then Err own else Ok unit)

-- what a letter stands for behind a backslash
abbrev pub short_escape : ℕ → Option ℕ
short_escape b = if (b == 34) || (b == 92) || (b == 47) then Some b
    else (if b == 98 then Some 8
    else (if b == 102 then Some 12
    else (if b == 110 then Some 10
    else (if b == 114 then Some 13
    else (if b == 116 then Some 9 else None)))))

-- the character of an escape, from behind its backslash
unfoldable pub escape_at : Broken → List ℕ → Result (ℕ × List ℕ) Broken
escape_at own [] = fails Syntax []
escape_at own (b ∷ at) = if b == 117 then unicode_at own at
    else elim (short_escape b) [ None ↦ fails Syntax (b ∷ at) | Some c ↦ Ok (c, at) ]

-- what ends a piece, where the first byte that isn't plain stands
unfoldable pub piece_end : List ℕ → List ℕ → Result ((Bool × List ℕ) × List ℕ) Broken
piece_end made [] = fails Syntax []
piece_end made (b ∷ at) = if b == 34 then Ok ((false, made), at)
    else (if b == 92 then (escape_at (broken Syntax (b ∷ at)) at >>= λ escape. Ok ((true, made ++ encode_utf8 escape.0), escape.1))
    else fails Syntax (b ∷ at))

-- a piece of a string behind what was made: plain characters, and the quote that ends it or an escape
unfoldable pub piece_at : List ℕ → List ℕ → Result ((Bool × List ℕ) × List ℕ) Broken
piece_at made at = run_at at >>= λ run. piece_end (made ++ run.0) run.1

-- the text of a string
unfoldable pub text_at : List ℕ → Result (List ℕ × List ℕ) Broken
text_at at = turns piece_at (suc (length at)) [] at
