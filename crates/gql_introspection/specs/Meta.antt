-- What an object of introspection stands for: section 4 of GraphQL October 2021.
use Rattle.std.specs.Prelude.{ℕ, Bool, List, codes}
use Rattle.gql_ast.specs.declared.field_definition.EnumValueDefinition.{EnumValueDefinition}
use Rattle.gql_ast.specs.declared.field_definition.FieldDefinition.{FieldDefinition}
use Rattle.gql_ast.specs.declared.field_definition.InputValueDefinition.{InputValueDefinition}
use Rattle.gql_ast.specs.declared.schema_definition.DirectiveDefinition.{DirectiveDefinition}
use Rattle.gql_ast_base.specs.declared.type_ref.TypeRef.{TypeRef}
use Rattle.gql_schema_types.specs.declared.schema.Schema.{Schema}
use Rattle.gql_schema_types.specs.declared.types.ExtendedType.{ExtendedType}

-- each knows the schema that it tells of
pub data Meta : Type 0 where
  schema_meta : Schema → Meta
  type_def : Schema → ExtendedType → Meta
  -- a list or a non-null type, whose outer `!` is left aside where it is stripped
  wrapped : Schema → TypeRef → Bool → Meta
  directive_def : Schema → DirectiveDefinition → Meta
  field_def : Schema → FieldDefinition → Meta
  enum_value_def : Schema → EnumValueDefinition → Meta
  input_value_def : Schema → InputValueDefinition → Meta

-- the object type that it is of
abbrev pub type_name_of : Meta → List ℕ
type_name_of (schema_meta schema) = codes "__Schema"
type_name_of (type_def schema ty) = codes "__Type"
type_name_of (wrapped schema ty stripped) = codes "__Type"
type_name_of (directive_def schema directive) = codes "__Directive"
type_name_of (field_def schema field) = codes "__Field"
type_name_of (enum_value_def schema value) = codes "__EnumValue"
type_name_of (input_value_def schema value) = codes "__InputValue"
