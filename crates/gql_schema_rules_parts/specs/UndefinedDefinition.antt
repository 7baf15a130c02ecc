-- A type that is named is defined: section 3.3 of GraphQL October 2021 and the validation of types in section 3.
use Rattle.std.specs.Prelude.{not, List}
use Rattle.gql_ast_base.specs.Names.{Named}
use Rattle.gql_diag_messages.specs.declared.rule.Rule.TheVariants.{UndefinedDefinition}
use Rattle.gql_diag_messages.specs.declared.diagnostic_data.DiagnosticData.{DiagnosticData}
use Rattle.gql_rules_values.specs.Faults.{name_fault, only_if}
use Rattle.gql_rules_values.specs.Known.{is_known}
use Rattle.gql_schema_types.specs.declared.types.ExtendedType.{ExtendedType}

abbrev pub undefined_definition : List ExtendedType → Named → List DiagnosticData
undefined_definition types name = only_if (not (is_known types name.text)) (name_fault UndefinedDefinition name)
