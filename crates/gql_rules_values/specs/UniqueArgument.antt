-- An argument is given once: section 5.4.2 of GraphQL October 2021.
use Rattle.std.specs.Prelude.{List, Option}
use Rattle.gql_source.specs.Span.{Span}
use Rattle.gql_ast_base.specs.declared.directive.Argument.{Argument}
use Rattle.gql_diag_messages.specs.declared.rule.Rule.TheVariants.{UniqueArgument}
use Rattle.gql_diag_messages.specs.declared.diagnostic_data.DiagnosticData.{DiagnosticData}
use Rattle.gql_schema_types.specs.Called.{argument_name}
use Rattle.gql_rules_values.specs.Seconds.{seconds}
use Rattle.gql_rules_values.specs.UniqueInputValue.{each}

abbrev pub argument_place : Argument → Option Span
argument_place argument = argument.location

-- each argument whose name came before
abbrev pub unique_argument : List Argument → List DiagnosticData
unique_argument arguments = seconds argument_name argument_place each UniqueArgument arguments
