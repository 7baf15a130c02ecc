-- Variables of an operation have distinct names: section 5.8.1 of GraphQL October 2021.
use Rattle.std.specs.Prelude.{List, [], Option}
use Rattle.gql_source.specs.Span.{Span}
use Rattle.gql_ast_base.specs.Names.{Named}
use Rattle.gql_ast.specs.declared.operation.VariableDefinition.{VariableDefinition}
use Rattle.gql_diag_messages.specs.declared.rule.Rule.TheVariants.{UniqueVariable}
use Rattle.gql_diag_messages.specs.declared.diagnostic_data.DiagnosticData.{DiagnosticData}
use Rattle.gql_rules_values.specs.Seconds.{seconds_after}
use Rattle.gql_rules_values.specs.UniqueInputValue.{each}

abbrev pub variable_name : VariableDefinition → Named
variable_name variable = variable.name

abbrev pub variable_place : VariableDefinition → Option Span
variable_place variable = variable.location

-- each variable whose name came before
abbrev pub unique_variable : List VariableDefinition → List DiagnosticData
unique_variable variables = seconds_after variable_name variable_place each UniqueVariable [] variables
