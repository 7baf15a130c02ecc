-- What is wrong with the variables that an operation defines: sections 5.6, 5.7 and 5.8 of GraphQL October 2021.
use Rattle.std.specs.Prelude.{Some, List, [], ◌++◌}
use Rattle.std.specs.List.{flat_map}
use Rattle.std.specs.Option.{option_map_or}
use Rattle.gql_ast.specs.declared.schema_definition.DirectiveLocation.TheVariants as at
use Rattle.gql_ast.specs.declared.operation.VariableDefinition.{VariableDefinition}
use Rattle.gql_diag_messages.specs.declared.diagnostic_data.DiagnosticData.{DiagnosticData}
use Rattle.gql_rules_values.specs.declared.known.Defined.TheVariants.{Types}
use Rattle.gql_rules_values.specs.Directives.{directive_faults}
use Rattle.gql_rules_values.specs.Literals.{literal_faults}
use Rattle.gql_schema_types.specs.declared.schema.Schema.{Schema}
use Rattle.gql_rules_nodes.specs.UniqueVariable.{unique_variable}
use Rattle.gql_rules_nodes.specs.VariableInputType.{variable_input_type}
use Rattle.gql_rules_nodes.specs.VariableType.{undefined_variable_type}

module _ (schema : Schema) where
  -- the default has the type
  abbrev pub default_faults : VariableDefinition → List DiagnosticData
  default_faults variable = option_map_or (literal_faults Types schema.types (Some variable.ty)) variable.default_value []

  abbrev pub type_faults : VariableDefinition → List DiagnosticData
  type_faults variable = undefined_variable_type schema.types variable ++ variable_input_type schema.types variable

  -- a variable by itself
  abbrev pub variable_faults : VariableDefinition → List DiagnosticData
  variable_faults variable =
      type_faults variable
      ++ (default_faults variable ++ directive_faults Types schema.types at.VariableDefinition schema.directive_definitions variable.directives)

  -- the variables of an operation, each of several of one name too
  abbrev pub variables_faults : List VariableDefinition → List DiagnosticData
  variables_faults variables = unique_variable variables ++ flat_map variable_faults variables
