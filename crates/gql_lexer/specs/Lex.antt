-- The token that a text begins with, or the fault in its place, read from the left.
use Rattle.std.specs.Prelude.{ℕ, zero, suc, ◌+◌, ◌-◌, ◌*◌, Bool, not, ◌&&◌, ◌||◌, ◌==◌, nat_lt}
use Rattle.std.specs.Prelude.{if◌then◌else◌, [], ◌∷◌, drop, slice_index}
use Rattle.std.specs.List.{prefix_len}
use Rattle.gql_lexer.specs.Class.{Text, is_between, is_name_continue, is_digit, is_blank, is_source, is_line, is_plain, is_block_plain, is_continuation}
use Rattle.gql_lexer.specs.Class.{is_space, is_within_line}
use Rattle.gql_lexer.specs.declared.run.ByteRun.{ByteRun}
use Rattle.gql_lexer.specs.declared.run.ByteRun.TheVariants as bytes

-- ---- runs

abbrev pub is_in : ByteRun → ℕ → Bool
is_in bytes.Name b = is_name_continue b
is_in bytes.Digit b = is_digit b
is_in bytes.Line b = is_line b
is_in bytes.Plain b = is_plain b
is_in bytes.BlockPlain b = is_block_plain b
is_in bytes.Continuation b = is_continuation b
is_in bytes.Space b = is_space b
is_in bytes.WithinLine b = is_within_line b
is_in bytes.NoBackslash b = not (b == 0x5C)
is_in bytes.Blank b = is_blank b

-- the first place from `from` on whose byte is not of the run
abbrev pub past : ByteRun → Text → ℕ → ℕ
past run at from = from + prefix_len (is_in run) (drop from at)

-- The length of the longest row of items that a text begins with, where `item` gives the length of the item that a
-- text begins with, or 0 where it begins with none. The number counts the bytes that are left of an item.
abbrev pub run_from : (Text → ℕ) → ℕ → Text → ℕ
run_from item left [] = 0
run_from item (suc left) (b ∷ at) = 1 + run_from item left at
run_from item zero (b ∷ at) = if item (b ∷ at) == 0 then 0 else 1 + run_from item (item (b ∷ at) - 1) at

unfoldable pub run_len : (Text → ℕ) → Text → ℕ
run_len item at = run_from item 0 at

-- ---- items

-- U+FEFF, the byte order mark
abbrev pub is_mark : Text → Bool
is_mark at = slice_index at 0 == 0xEF && slice_index at 1 == 0xBB && slice_index at 2 == 0xBF

-- a character of white space or a byte order mark
unfoldable pub blank_len : Text → ℕ
blank_len at = if is_blank (slice_index at 0) then 1 else if is_mark at then 3 else 0

-- `"""`
abbrev pub is_block_quote : Text → ℕ → Bool
is_block_quote at from = slice_index at from == 0x22 && slice_index at (from + 1) == 0x22 && slice_index at (from + 2) == 0x22

-- the value of a hexadecimal digit, and 16 for any other byte
abbrev pub hex_value : ℕ → ℕ
hex_value b = if is_digit b then b - 0x30 else if is_between 0x41 0x46 b then b - 0x37 else if is_between 0x61 0x66 b then b - 0x57 else 16

-- four hexadecimal digits
unfoldable pub is_unit : Text → ℕ → Bool
is_unit at from =
    nat_lt (hex_value (slice_index at from)) 16 && nat_lt (hex_value (slice_index at (from + 1))) 16
    && nat_lt (hex_value (slice_index at (from + 2))) 16 && nat_lt (hex_value (slice_index at (from + 3))) 16

-- the number that they write: a code unit of UTF-16
unfoldable pub unit : Text → ℕ → ℕ
unit at from =
    ((hex_value (slice_index at from) * 16 + hex_value (slice_index at (from + 1))) * 16 + hex_value (slice_index at (from + 2))) * 16
    + hex_value (slice_index at (from + 3))

abbrev pub is_high_surrogate : ℕ → Bool
is_high_surrogate u = is_between 0xD800 0xDBFF u

abbrev pub is_low_surrogate : ℕ → Bool
is_low_surrogate u = is_between 0xDC00 0xDFFF u

-- `\u` and four hexadecimal digits
abbrev pub is_unit_escape : Text → ℕ → Bool
is_unit_escape at from = slice_index at from == 0x5C && slice_index at (from + 1) == 0x75 && is_unit at (from + 2)

-- an escape of a character, or of a high and a low surrogate in a row
unfoldable pub unicode_escape_len : Text → ℕ
unicode_escape_len at =
    if not (is_unit_escape at 0) || is_low_surrogate (unit at 2) then 0
    else if not (is_high_surrogate (unit at 2)) then 6
    else if is_unit_escape at 6 && is_low_surrogate (unit at 8) then 12
    else 0

-- the letters and marks that make an escape behind a backslash: `" \ / b f n r t`
abbrev pub is_escaped : ℕ → Bool
is_escaped b = b == 0x22 || b == 0x5C || b == 0x2F || b == 0x62 || b == 0x66 || b == 0x6E || b == 0x72 || b == 0x74

-- a byte of a character in a string, or an escape
unfoldable pub string_len : Text → ℕ
string_len at =
    if slice_index at 0 == 0x5C then (if is_escaped (slice_index at 1) then 2 else unicode_escape_len at)
    else if is_line (slice_index at 0) && not (slice_index at 0 == 0x22) then 1 else 0

-- a byte of a character in a block string, or `\"""`
unfoldable pub block_len : Text → ℕ
block_len at =
    if is_block_quote at 0 then 0
    else if slice_index at 0 == 0x5C && is_block_quote at 1 then 4
    else if is_source (slice_index at 0) then 1 else 0

-- ---- numbers

-- the end of `-`
abbrev pub sign_end : Text → ℕ
sign_end at = if slice_index at 0 == 0x2D then 1 else 0

-- the end of the IntegerPart: `-`, and 0 or digits of which the first is not 0
unfoldable pub whole_end : Text → ℕ
whole_end at = if slice_index at (sign_end at) == 0x30 then sign_end at + 1 else past bytes.Digit at (sign_end at)

-- the end of the FractionalPart behind `whole`, if there is one: `.` and digits
unfoldable pub fraction_end : Text → ℕ → ℕ
fraction_end at whole = if slice_index at whole == 0x2E then past bytes.Digit at (whole + 1) else whole

abbrev pub is_exponent : ℕ → Bool
is_exponent b = b == 0x65 || b == 0x45

abbrev pub is_sign : ℕ → Bool
is_sign b = b == 0x2B || b == 0x2D

-- where the digits of an exponent begin
unfoldable pub exponent_start : Text → ℕ → ℕ
exponent_start at from = if is_sign (slice_index at (from + 1)) then from + 2 else from + 1

-- the end of the ExponentPart behind `from`, if there is one: `e` or `E`, a sign or none, and digits
unfoldable pub exponent_end : Text → ℕ → ℕ
exponent_end at from = if is_exponent (slice_index at from) then past bytes.Digit at (exponent_start at from) else from

-- what may not follow a number: a digit, a dot or the start of a name
abbrev pub goes_on : ℕ → Bool
goes_on b = is_name_continue b || b == 0x2E
