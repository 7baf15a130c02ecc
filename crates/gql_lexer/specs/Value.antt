-- The value of a string: what its characters and escapes stand for.
use Rattle.std.specs.Prelude.{ℕ, zero, suc, ◌+◌, ◌-◌, ◌*◌, ◌==◌, if◌then◌else◌, List, []}
use Rattle.std.specs.Prelude.{◌∷◌, ◌++◌, drop, slice_index, encode_utf8}
use Rattle.gql_lexer.specs.Class.{Text}
use Rattle.gql_lexer.specs.Lex.{string_len, unit, is_high_surrogate, is_escaped}

-- what a letter or mark stands for behind a backslash
abbrev pub escaped : ℕ → ℕ
escaped b =
    if b == 0x62 then 0x08 else if b == 0x66 then 0x0C else if b == 0x6E then 0x0A else if b == 0x72 then 0x0D else if b == 0x74 then 0x09 else b

-- the character that a code unit, or a pair of surrogates, stands for
unfoldable pub escaped_character : Text → ℕ
escaped_character at =
    if is_high_surrogate (unit at 2) then 0x1_0000 + (unit at 2 - 0xD800) * 0x400 + (unit at 8 - 0xDC00) else unit at 2

-- the character that an escape stands for
abbrev pub escape_value : Text → ℕ
escape_value at = if is_escaped (slice_index at 1) then escaped (slice_index at 1) else escaped_character at

-- the bytes that a byte of a character or an escape stands for
abbrev pub item_value : Text → List ℕ
item_value at = if slice_index at 0 == 0x5C then encode_utf8 (escape_value at) else slice_index at 0 ∷ []

-- what the row of characters and escapes stands for. The number counts the bytes that are left of an escape.
abbrev pub values_from : ℕ → Text → List ℕ
values_from left [] = []
values_from (suc left) (b ∷ at) = values_from left at
values_from zero (b ∷ at) =
    if string_len (b ∷ at) == 0 then [] else item_value (b ∷ at) ++ values_from (string_len (b ∷ at) - 1) at

unfoldable pub values : Text → List ℕ
values at = values_from 0 at

-- the value of a string on one line, from its opening quote on
abbrev pub string_value : Text → List ℕ
string_value at = values (drop 1 at)
