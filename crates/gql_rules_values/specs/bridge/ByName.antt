-- Where the first things of their names stand in a list.
use Rattle.std.specs.Prelude.{ℕ, List, [], ◌∷◌, ◌++◌, is_some, if◌then◌else◌}
use Rattle.std.specs.Map.{lookup}
use Rattle.std.specs.Str.{bytes_eq}
use Rattle.gql_ast_base.specs.Names.{Named}

-- names, each with the place where it came first
abbrev pub Places : Type 0
Places = List (List ℕ × ℕ)

-- a name that was noted keeps its place
abbrev pub with_place : {X : Type 0} → (X → Named) → Places → X → ℕ → Places
with_place name_of places x at = if is_some (lookup (bytes_eq (name_of x).text) places) then places else places ++ ((name_of x).text, at) ∷ []
