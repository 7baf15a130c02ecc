-- The object of introspection for a type that is referred to: section 4.2.2 of GraphQL October 2021.
use Rattle.std.specs.Prelude.{ℕ, false, List, map, Option, Some, None}
use Rattle.std.specs.List.{filter_map}
use Rattle.gql_ast_base.specs.Names.{Named}
use Rattle.gql_ast_base.specs.declared.type_ref.TypeRef.{TypeRef, out-TypeRef}
use Rattle.gql_ast_base.specs.declared.type_ref.TypeRef.TheOpen.{TypeRef-F}
use Rattle.gql_resolvers.specs.Resolved.{Meaning, gives_object}
use Rattle.gql_schema_types.specs.Types.{type_called}
use Rattle.gql_schema_types.specs.declared.schema.Schema.{Schema}
use Rattle.gql_schema_types.specs.declared.types.ExtendedType.{ExtendedType}
use Rattle.gql_introspection.specs.Answers.{null_leaf, objects}
use Rattle.gql_introspection.specs.Meta.{Meta, type_def, wrapped}

module _ (schema : Schema) where
  abbrev pub type_or_null : Option ExtendedType → Meaning Meta
  type_or_null (Some ty) = gives_object (type_def schema ty)
  type_or_null None = null_leaf

  -- the type of a name, null where the schema has none
  abbrev pub named_type : List ℕ → Meaning Meta
  named_type name = type_or_null (type_called name schema.types)

  -- the root type of an operation, null where there is none
  abbrev pub root_type : Option Named → Meaning Meta
  root_type (Some name) = named_type name.text
  root_type None = null_leaf

  -- the types of these names that the schema has, in this order
  abbrev pub named_types : List Named → Meaning Meta
  named_types names = objects (map (type_def schema) (filter_map (λ name. type_called name.text schema.types) names))

  abbrev pub type_level : TypeRef → TypeRef-F TypeRef → Meaning Meta
  type_level ty (TypeRef-F.Named name) = named_type name.text
  type_level ty _ = gives_object (wrapped schema ty false)

  -- the type that is referred to
  abbrev pub type_meaning : TypeRef → Meaning Meta
  type_meaning ty = type_level ty (out-TypeRef ty)
