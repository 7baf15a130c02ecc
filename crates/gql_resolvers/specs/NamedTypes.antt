-- The types that references name, within all lists: section 2.11 of GraphQL October 2021.
use Rattle.std.specs.Prelude.{Option, Some, None}
use Rattle.gql_ast.specs.declared.field_definition.FieldDefinition.{FieldDefinition}
use Rattle.gql_schema_types.specs.Schemas.{type_named}
use Rattle.gql_schema_types.specs.declared.schema.Schema.{Schema}
use Rattle.gql_schema_types.specs.declared.types.ExtendedType.{ExtendedType}

-- the type of the schema that the type of a field names, where there is a field
abbrev pub type_named_by_field : Schema → Option FieldDefinition → Option ExtendedType
type_named_by_field schema (Some definition) = type_named schema definition.ty
type_named_by_field schema None = None
