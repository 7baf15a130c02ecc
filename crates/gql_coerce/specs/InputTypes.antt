-- Input types of a schema and their parts by name: sections 3.9 and 3.10 of GraphQL October 2021.
use Rattle.std.specs.Prelude.{ℕ, Bool, Option, Some, None, List, is_some}
use Rattle.std.specs.Option.{option_and_then}
use Rattle.gql_ast.specs.declared.field_definition.EnumValueDefinition.{EnumValueDefinition}
use Rattle.gql_ast.specs.declared.field_definition.InputValueDefinition.{InputValueDefinition}
use Rattle.gql_schema_types.specs.Entries.{entry}
use Rattle.gql_schema_types.specs.Types.{type_called}
use Rattle.gql_schema_types.specs.declared.types.ExtendedType.{ExtendedType}
use Rattle.gql_schema_types.specs.declared.types.ExtendedType.TheVariants.{InputObject}
use Rattle.gql_schema_types.specs.declared.types.InputObjectType.{InputObjectType}

-- the input object type itself, where the type is one
abbrev pub as_input_object : ExtendedType → Option InputObjectType
as_input_object (InputObject it) = Some it
as_input_object _ = None

-- the input object type of a name
abbrev pub input_object_called : List ℕ → List ExtendedType → Option InputObjectType
input_object_called name types = option_and_then as_input_object (type_called name types)

abbrev pub field_name : InputValueDefinition → List ℕ
field_name field = field.name.text

-- is it the name of one of the fields?
abbrev pub is_field : List InputValueDefinition → List ℕ → Bool
is_field fields key = is_some (entry (λ (field : InputValueDefinition). field.name) key fields)

-- is it the name of one of the values?
abbrev pub is_enum_value : List EnumValueDefinition → List ℕ → Bool
is_enum_value values name = is_some (entry (λ (value : EnumValueDefinition). value.value) name values)
