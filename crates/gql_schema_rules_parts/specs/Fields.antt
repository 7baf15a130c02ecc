-- What is wrong with fields and with values of enums where they are defined: sections 3.6, 3.7 and 3.9 of GraphQL October 2021.
use Rattle.std.specs.Prelude.{List, [], ◌++◌, if◌then◌else◌}
use Rattle.std.specs.List.{flat_map}
use Rattle.gql_ast.specs.declared.field_definition.EnumValueDefinition.{EnumValueDefinition}
use Rattle.gql_ast.specs.declared.field_definition.FieldDefinition.{FieldDefinition as TheField}
use Rattle.gql_ast.specs.declared.schema_definition.DirectiveLocation.TheVariants.{FieldDefinition, EnumValue}
use Rattle.gql_diag_messages.specs.declared.diagnostic_data.DiagnosticData.{DiagnosticData}
use Rattle.gql_ast_base.specs.TypeParts.{named_type}
use Rattle.gql_rules_values.specs.Written.{is_written}
use Rattle.gql_rules_values.specs.declared.known.Defined.TheVariants.{TypesAndScalars}
use Rattle.gql_rules_values.specs.Directives.{directive_faults}
use Rattle.gql_schema_rules_parts.specs.InputValues.{arguments_faults}
use Rattle.gql_schema_rules_parts.specs.OutputType.{output_type}
use Rattle.gql_schema_rules_parts.specs.ReservedName.{reserved_name}
use Rattle.gql_schema_rules_parts.specs.UndefinedDefinition.{undefined_definition}
use Rattle.gql_schema_types.specs.declared.schema.Schema.{Schema}

module _ (schema : Schema) where
  abbrev pub type_faults : TheField → List DiagnosticData
  type_faults field = undefined_definition schema.types (named_type field.ty) ++ output_type schema.types field

  abbrev pub parts_faults : TheField → List DiagnosticData
  parts_faults field =
      arguments_faults schema field.arguments
      ++ directive_faults TypesAndScalars schema.types FieldDefinition schema.directive_definitions field.directives

  abbrev pub written_field_faults : TheField → List DiagnosticData
  written_field_faults field = reserved_name field.name ++ (type_faults field ++ parts_faults field)

  -- a field that is not built in
  abbrev pub field_faults : TheField → List DiagnosticData
  field_faults field = if is_written field.location then written_field_faults field else []

  abbrev pub fields_faults : List TheField → List DiagnosticData
  fields_faults fields = flat_map field_faults fields

  -- a value of an enum that is not built in
  abbrev pub value_faults : EnumValueDefinition → List DiagnosticData
  value_faults value =
      if is_written value.location
      then reserved_name value.value ++ directive_faults TypesAndScalars schema.types EnumValue schema.directive_definitions value.directives
      else []

  abbrev pub values_faults : List EnumValueDefinition → List DiagnosticData
  values_faults values = flat_map value_faults values
