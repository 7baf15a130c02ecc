-- What the fields of types name, those of introspection among them: sections 3.3, 3.6, 3.7, 4.1 and 4.2 of GraphQL October 2021.
use Rattle.std.specs.Prelude.{◌≡◌, ℕ, List, Some}
use Rattle.gql_ast.specs.declared.field_definition.FieldDefinition.{FieldDefinition}
use Rattle.gql_parser.specs.OutputFields.{NamesOutputType}
use Rattle.gql_schema_types.specs.Schemas.{field_of}
use Rattle.gql_schema_types.specs.declared.schema.Schema.{Schema}

-- each field that a type has names a type that is defined and is no input object type
abbrev pub NameOutputTypes : Schema → Type 0
NameOutputTypes schema = (ty name : List ℕ) (field : FieldDefinition) → field_of schema ty name ≡ Some field → NamesOutputType schema.types field
