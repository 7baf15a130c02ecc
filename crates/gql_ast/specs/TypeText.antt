-- The text of a reference to a type: section 2.11 of GraphQL October 2021.
use Rattle.std.specs.Prelude.{ℕ, List, ◌++◌, codes}
use Rattle.gql_ast_base.specs.declared.type_ref.TypeRef.{TypeRef, fold-TypeRef}
use Rattle.gql_ast_base.specs.declared.type_ref.TypeRef.TheOpen.{TypeRef-F}

-- one level, with the text of the item's type in its place
abbrev pub type_step : TypeRef-F (List ℕ) → List ℕ
type_step (TypeRef-F.Named name) = name.text
type_step (TypeRef-F.NonNullNamed name) = name.text ++ codes "!"
type_step (TypeRef-F.List item) = codes "[" ++ item ++ codes "]"
type_step (TypeRef-F.NonNullList item) = codes "[" ++ item ++ codes "]!"

abbrev pub type_text : TypeRef → List ℕ
type_text = fold-TypeRef (List ℕ) type_step
