-- The parts of a reference to a type: section 2.11 of GraphQL October 2021.
use Rattle.std.specs.Prelude.{Bool, true, false, Option, Some, None}
use Rattle.gql_ast_base.specs.Names.{Named}
use Rattle.gql_ast_base.specs.declared.type_ref.TypeRef.{TypeRef, fold-TypeRef, out-TypeRef}
use Rattle.gql_ast_base.specs.declared.type_ref.TypeRef.TheOpen.{TypeRef-F}

abbrev pub name_step : TypeRef-F Named → Named
name_step (TypeRef-F.Named name) = name
name_step (TypeRef-F.NonNullNamed name) = name
name_step (TypeRef-F.List name) = name
name_step (TypeRef-F.NonNullList name) = name

-- the name within all lists
abbrev pub named_type : TypeRef → Named
named_type = fold-TypeRef Named name_step

abbrev pub item_level : TypeRef-F TypeRef → Option TypeRef
item_level (TypeRef-F.Named name) = None
item_level (TypeRef-F.NonNullNamed name) = None
item_level (TypeRef-F.List item) = Some item
item_level (TypeRef-F.NonNullList item) = Some item

-- the type of the items, where it is a list's
abbrev pub item_type : TypeRef → Option TypeRef
item_type ty = item_level (out-TypeRef ty)

abbrev pub non_null_level : TypeRef-F TypeRef → Bool
non_null_level (TypeRef-F.Named name) = false
non_null_level (TypeRef-F.NonNullNamed name) = true
non_null_level (TypeRef-F.List item) = false
non_null_level (TypeRef-F.NonNullList item) = true

-- null is no value of the type
abbrev pub is_non_null : TypeRef → Bool
is_non_null ty = non_null_level (out-TypeRef ty)
