-- The fields of the types of a schema: their names, and what their types name. Sections 2.1.9, 3.3, 3.6 and 3.7 of GraphQL October 2021.
use Rattle.std.specs.Prelude.{◌≡◌, ℕ, true, false, List, Some, None}
use Rattle.std.specs.List.{All}
use Rattle.gql_ast_base.specs.Names.{is_reserved}
use Rattle.gql_ast_base.specs.TypeParts.{named_type}
use Rattle.gql_ast.specs.declared.field_definition.FieldDefinition.{FieldDefinition}
use Rattle.gql_schema_rules_parts.specs.OutputType.{is_input_object}
use Rattle.gql_schema_types.specs.Entries.{entry}
use Rattle.gql_schema_types.specs.Types.{type_called, fields_of, field_name}
use Rattle.gql_schema_types.specs.declared.schema.Schema.{Schema}
use Rattle.gql_schema_types.specs.declared.types.ExtendedType.{ExtendedType}

-- no type has a field of its own whose name begins with two underscores, as those of introspection do
abbrev pub HaveNoReservedFields : Schema → Type 0
HaveNoReservedFields schema =
    (name reserved : List ℕ) (ty : ExtendedType) → type_called name schema.types ≡ Some ty → is_reserved reserved ≡ true
    → entry field_name reserved (fields_of ty) ≡ None

-- the field's type names a type that is defined and is no input object type
pub record NamesOutputType (types : List ExtendedType) (field : FieldDefinition) : Type 0 where
  pub type : ExtendedType
  pub defined : type_called (named_type field.ty).text types ≡ Some type
  pub output : is_input_object type ≡ false

abbrev pub HaveOutputTypes : Schema → Type 0
HaveOutputTypes schema =
    (name : List ℕ) (ty : ExtendedType) → type_called name schema.types ≡ Some ty → All (NamesOutputType schema.types) (fields_of ty)
