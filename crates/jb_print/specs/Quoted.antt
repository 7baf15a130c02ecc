-- A text as a JSON string (RFC 8259, section 7), with only the escapes that it needs.
use Rattle.std.specs.Prelude.{ℕ, ◌/◌, ◌%◌, ◌==◌, nat_lt, List, [], ◌∷◌, ◌++◌, Option, Some, None, unwrap_or, if◌then◌else◌, codes}
use Rattle.std.specs.List.{flat_map}
use Rattle.std.specs.Char.{digit_char}

-- the bytes that have an escape of two characters
abbrev pub short_escape : ℕ → Option (List ℕ)
short_escape byte =
    if byte == 34 then Some (codes "\\\"")
    else (if byte == 92 then Some (codes "\\\\")
    else (if byte == 8 then Some (codes "\\b")
    else (if byte == 12 then Some (codes "\\f")
    else (if byte == 10 then Some (codes "\\n")
    else (if byte == 13 then Some (codes "\\r")
    else (if byte == 9 then Some (codes "\\t")
    else None))))))

-- a control byte by its two hexadecimal digits, any other as it is
abbrev pub long_escape : ℕ → List ℕ
long_escape byte = if nat_lt byte 32 then codes "\\u00" ++ digit_char (byte / 16) ∷ digit_char (byte % 16) ∷ [] else byte ∷ []

-- what stands in a JSON string for one byte of a text
unfoldable pub escaped : ℕ → List ℕ
escaped byte = unwrap_or (short_escape byte) (long_escape byte)

-- a text as a JSON string
abbrev pub quoted : List ℕ → List ℕ
quoted text = codes "\"" ++ flat_map escaped text ++ codes "\""
