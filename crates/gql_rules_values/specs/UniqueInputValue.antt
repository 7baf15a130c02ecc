-- A key stands once in an object literal, and an argument once in a definition: sections 5.6.3 and 3.6.1 of GraphQL October 2021.
use Rattle.std.specs.Prelude.{Bool, true, List, [], Option}
use Rattle.gql_source.specs.Span.{Span}
use Rattle.gql_ast_base.specs.Names.{Named}
use Rattle.gql_ast.specs.declared.field_definition.InputValueDefinition.{InputValueDefinition}
use Rattle.gql_ast_base.specs.declared.value.Value.{Value}
use Rattle.gql_ast_base.specs.declared.value.ValueKind.{ValueKind, out-ValueKind}
use Rattle.gql_ast_base.specs.declared.value.ValueKind.TheOpen.{ValueKind-F}
use Rattle.gql_diag_messages.specs.declared.rule.Rule.TheVariants.{UniqueInputValue}
use Rattle.gql_diag_messages.specs.declared.diagnostic_data.DiagnosticData.{DiagnosticData}
use Rattle.gql_rules_values.specs.Seconds.{seconds}

abbrev pub each : Named → Bool
each name = true

abbrev pub key : Named × Value → Named
key member = member.0

abbrev pub key_place : Named × Value → Option Span
key_place member = member.0.location

abbrev pub unique_level : ValueKind-F ValueKind Value → List DiagnosticData
unique_level (ValueKind-F.Object members) = seconds key key_place each UniqueInputValue members
unique_level _ = []

-- each key of an object literal that came before in it
abbrev pub unique_keys : Value → List DiagnosticData
unique_keys literal = unique_level (out-ValueKind literal.kind)

abbrev pub definition_name : InputValueDefinition → Named
definition_name value = value.name

abbrev pub definition_place : InputValueDefinition → Option Span
definition_place value = value.location

-- each argument in a definition whose name came before in it
abbrev pub unique_definitions : List InputValueDefinition → List DiagnosticData
unique_definitions arguments = seconds definition_name definition_place each UniqueInputValue arguments
