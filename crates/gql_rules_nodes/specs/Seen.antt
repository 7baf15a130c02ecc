-- Names that were seen.
use Rattle.std.specs.Prelude.{ℕ, List, [], ◌∷◌, ◌++◌, is_some, position, if◌then◌else◌}
use Rattle.std.specs.Str.{bytes_eq}
use Rattle.gql_ast_base.specs.Names.{Named}

-- a name that was seen stays as it is
abbrev pub with_name : List (List ℕ) → Named → List (List ℕ)
with_name seen name = if is_some (position (bytes_eq name.text) seen) then seen else seen ++ name.text ∷ []
