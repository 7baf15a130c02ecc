-- What is wrong with arguments and input fields where they are defined: sections 3.6.1 and 3.10 of GraphQL October 2021.
use Rattle.std.specs.Prelude.{Some, List, [], ◌++◌, if◌then◌else◌}
use Rattle.std.specs.List.{flat_map}
use Rattle.std.specs.Option.{option_map_or}
use Rattle.gql_ast.specs.declared.field_definition.InputValueDefinition.{InputValueDefinition}
use Rattle.gql_ast.specs.declared.schema_definition.DirectiveLocation.{DirectiveLocation}
use Rattle.gql_ast.specs.declared.schema_definition.DirectiveLocation.TheVariants.{ArgumentDefinition, InputFieldDefinition}
use Rattle.gql_ast_base.specs.declared.value.Value.{Value}
use Rattle.gql_diag_messages.specs.declared.diagnostic_data.DiagnosticData.{DiagnosticData}
use Rattle.gql_ast_base.specs.TypeParts.{named_type}
use Rattle.gql_rules_values.specs.Written.{is_written}
use Rattle.gql_rules_values.specs.declared.known.Defined.TheVariants.{TypesAndScalars}
use Rattle.gql_rules_values.specs.Directives.{directive_faults}
use Rattle.gql_rules_values.specs.Literals.{literal_faults}
use Rattle.gql_rules_values.specs.UniqueInputValue.{unique_definitions}
use Rattle.gql_schema_rules_parts.specs.InputType.{input_type}
use Rattle.gql_schema_rules_parts.specs.ReservedName.{reserved_name}
use Rattle.gql_schema_rules_parts.specs.UndefinedDefinition.{undefined_definition}
use Rattle.gql_schema_types.specs.declared.schema.Schema.{Schema}

module _ (schema : Schema) where
  -- the default has the type
  abbrev pub default_faults : InputValueDefinition → List DiagnosticData
  default_faults value = option_map_or (literal_faults TypesAndScalars schema.types (Some value.ty)) value.default_value []

  abbrev pub type_faults : InputValueDefinition → List DiagnosticData
  type_faults value = undefined_definition schema.types (named_type value.ty) ++ input_type schema.types value

  -- an argument or an input field by itself
  abbrev pub input_value_faults : DirectiveLocation → InputValueDefinition → List DiagnosticData
  input_value_faults location value =
      reserved_name value.name ++ (type_faults value ++ (default_faults value
      ++ directive_faults TypesAndScalars schema.types location schema.directive_definitions value.directives))

  -- the arguments of a field or a directive, each of several of one name too
  abbrev pub arguments_faults : List InputValueDefinition → List DiagnosticData
  arguments_faults values = unique_definitions values ++ flat_map (input_value_faults ArgumentDefinition) values

  abbrev pub input_field_faults : InputValueDefinition → List DiagnosticData
  input_field_faults value = if is_written value.location then input_value_faults InputFieldDefinition value else []

  abbrev pub input_fields_faults : List InputValueDefinition → List DiagnosticData
  input_fields_faults values = flat_map input_field_faults values
