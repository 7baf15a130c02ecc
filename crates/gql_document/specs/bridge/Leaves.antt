-- Types without fields: sections 3.5 and 3.9 of GraphQL October 2021.
use Rattle.std.specs.Option.{option_map_or}
use Rattle.gql_ast_base.specs.declared.type_ref.TypeRef.{TypeRef}
use Rattle.gql_ast_base.specs.TypeParts.{named_type}
use Rattle.gql_schema_types.specs.Types.{type_called}
use Rattle.gql_schema_types.specs.declared.schema.Schema.{Schema}
use Rattle.gql_schema_types.specs.declared.types.ExtendedType.{ExtendedType}
use Rattle.gql_schema_types.specs.declared.types.ExtendedType.TheVariants as type
use Rattle.gql_document.specs.declared.type_kind.Leaf.{Leaf}
use Rattle.gql_document.specs.declared.type_kind.Leaf.TheVariants.{Scalar, Enum, Neither}

abbrev pub leaf_kind : ExtendedType → Leaf
leaf_kind (type.Scalar _) = Scalar
leaf_kind (type.Enum _) = Enum
leaf_kind _ = Neither

-- the kind of the type that a reference is to
abbrev pub leaf_of : Schema → TypeRef → Leaf
leaf_of schema ty = option_map_or leaf_kind (type_called (named_type ty).text schema.types) Neither
