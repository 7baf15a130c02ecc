-- The failure of a field that an object does not know.
use Rattle.std.specs.Prelude.{ℕ, List, ◌++◌, codes}

-- by the names of the field and of the object's type
abbrev pub unknown_field : List ℕ → List ℕ → List ℕ
unknown_field f T = codes "unexpected field name: " ++ (f ++ (codes " in type " ++ T))
