-- The types of items: section 3.11 of GraphQL October 2021.
use Rattle.gql_ast_base.specs.declared.type_ref.TypeRef.{TypeRef, out-TypeRef}
use Rattle.gql_ast_base.specs.declared.type_ref.TypeRef.TheOpen.{TypeRef-F}

abbrev pub item_level : TypeRef → TypeRef-F TypeRef → TypeRef
item_level ty (TypeRef-F.Named name) = ty
item_level ty (TypeRef-F.NonNullNamed name) = ty
item_level ty (TypeRef-F.List item) = item
item_level ty (TypeRef-F.NonNullList item) = item

-- the type of a list's items; a list fits no other type, so there the type stands for itself
abbrev pub item_type : TypeRef → TypeRef
item_type ty = item_level ty (out-TypeRef ty)
