-- Texts with places for names: `{0}` stands for the first name, `{1}` for the second, and so on.
use Rattle.std.specs.Prelude.{ℕ, zero, suc, ◌-◌, Bool, ◌&&◌, ◌==◌, if◌then◌else◌, List}
use Rattle.std.specs.Prelude.{[], ◌∷◌, ◌++◌, length, slice_index, slice_index_or, Option, Some, None, encode_utf8}
use Rattle.std.specs.Char.{is_ascii_digit}

-- the name of this number from 0 on, or the empty text where there is none
abbrev pub name_at : List (List ℕ) → ℕ → List ℕ
name_at names k = slice_index_or names k []

-- an unnamed definition has the empty text for its name
abbrev pub is_lacking : ℕ → List (List ℕ) → Bool
is_lacking k names = length (name_at names k) == 0

-- the name of a directive stands with its `@` before it
abbrev pub is_directive : List (List ℕ) → Bool
is_directive names = slice_index (name_at names 0) 0 == 64

-- which name belongs here, where a place for one begins: a digit in braces
abbrev pub place_for : List ℕ → Option ℕ
place_for (open_brace ∷ digit ∷ close_brace ∷ rest) =
    if (open_brace == 123) && is_ascii_digit digit && (close_brace == 125) then Some (digit - 48) else None
place_for _ = None

-- What is written at one byte, and how many bytes behind it are done with that.
abbrev pub written : List (List ℕ) → ℕ → Option ℕ → List ℕ × ℕ
written names byte (Some k) = (name_at names k, 2)
written names byte None = (encode_utf8 byte, 0)

-- A pattern with each place for a name filled, behind the bytes of a place that are done. Its other bytes are ASCII.
abbrev pub filled_behind : List (List ℕ) → ℕ → List ℕ → List ℕ
filled_behind names done [] = []
filled_behind names (suc done) (byte ∷ rest) = filled_behind names done rest
filled_behind names zero (byte ∷ rest) =
    let here = written names byte (place_for (byte ∷ rest)) in here.0 ++ filled_behind names here.1 rest

abbrev pub filled : List ℕ → List (List ℕ) → List ℕ
filled pattern names = filled_behind names 0 pattern
