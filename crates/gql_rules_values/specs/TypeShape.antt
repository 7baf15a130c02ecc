-- The parts of a reference to a type: section 2.11 of GraphQL October 2021.
use Rattle.std.specs.Prelude.{Bool, ◌&&◌, is_none}
use Rattle.gql_ast.specs.declared.field_definition.InputValueDefinition.{InputValueDefinition}
use Rattle.gql_ast_base.specs.declared.type_ref.TypeRef.{TypeRef, fold-TypeRef}
use Rattle.gql_ast_base.specs.declared.type_ref.TypeRef.TheOpen.{TypeRef-F}
use Rattle.gql_ast_base.specs.declared.type_ref.TypeRef.TheVariants as type
use Rattle.gql_ast_base.specs.TypeParts.{is_non_null}

abbrev pub single_step : TypeRef-F TypeRef → TypeRef
single_step (TypeRef-F.Named name) = type.Named name
single_step (TypeRef-F.NonNullNamed name) = type.NonNullNamed name
single_step (TypeRef-F.List single) = single
single_step (TypeRef-F.NonNullList single) = single

-- the type within all lists
abbrev pub single_type : TypeRef → TypeRef
single_type = fold-TypeRef TypeRef single_step

-- an argument or an input field that has to be given
abbrev pub is_required : InputValueDefinition → Bool
is_required value = is_non_null value.ty && is_none value.default_value
