-- What was told, by the texts that it is found by.
use Rattle.std.specs.Prelude.{ℕ, Bool, if◌then◌else◌, List, [], ◌∷◌, ◌++◌, is_some}
use Rattle.std.specs.Map.{lookup}
use Rattle.std.specs.Str.{bytes_eq}
use Rattle.jb_tree.specs.declared.value.Value.{Value}

abbrev pub Table : Type 0
Table = List (List ℕ × Value)

abbrev pub has_key : {V : Type 0} → List ℕ → List (List ℕ × V) → Bool
has_key key entries = is_some (lookup (bytes_eq key) entries)

-- a value that is told, unless one was told before
abbrev pub with_answer : {V : Type 0} → List (List ℕ × V) → List ℕ → V → List (List ℕ × V)
with_answer entries key value = if has_key key entries then entries else entries ++ (key, value) ∷ []
