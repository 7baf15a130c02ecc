-- The types of lists: section 3.11 of GraphQL October 2021.
use Rattle.std.specs.Prelude.{Bool, is_some}
use Rattle.gql_ast_base.specs.TypeParts.{item_type}
use Rattle.gql_ast_base.specs.declared.type_ref.TypeRef.{TypeRef}

abbrev pub is_list : TypeRef → Bool
is_list ty = is_some (item_type ty)
