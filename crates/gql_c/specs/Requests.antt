-- What is asked of a query: the name of an operation, the text of its variables, and bits.
use Rattle.std.specs.Prelude.{◌≡◌, ◌%◌, ◌/◌, ◌==◌, ℕ, Bool, true, if◌then◌else◌, List, [], ◌∷◌}
use Rattle.std.specs.Prelude.{Option, Some, None, codes}
use Rattle.std.specs.Str.{IsUtf8}

-- the bit of 1: the operation is that of the name
abbrev pub is_named : ℕ → Bool
is_named flags = flags % 2 == 1

-- the bit of 2: `__schema` and `__type` are answered
abbrev pub is_introspected : ℕ → Bool
is_introspected flags = flags / 2 % 2 == 1

-- the name that counts
abbrev pub name_given : List ℕ → ℕ → Option (List ℕ)
name_given name flags = if is_named flags then Some name else None

-- the text of the variables, where no bytes at all are an object without members
abbrev pub variables_given : List ℕ → List ℕ
variables_given [] = codes "{}"
variables_given (first ∷ rest) = first ∷ rest

-- a name that counts is a text
abbrev pub IsNameRead : List ℕ → ℕ → Type 0
IsNameRead name flags = is_named flags ≡ true → IsUtf8 name

-- a name counts, and is no text
abbrev pub IsNoName : List ℕ → ℕ → Type 0
IsNoName name flags = (is_named flags ≡ true) × ¬ (IsUtf8 name)
