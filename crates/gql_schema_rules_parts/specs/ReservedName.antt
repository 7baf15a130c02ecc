-- No name that a user gives begins with two underscores: sections 2.1.9, 3.3, 3.6, 3.7, 3.10 and 3.13 of GraphQL October 2021.
use Rattle.std.specs.Prelude.{List}
use Rattle.gql_ast_base.specs.Names.{Named, is_reserved}
use Rattle.gql_diag_messages.specs.declared.rule.Rule.TheVariants.{ReservedName}
use Rattle.gql_diag_messages.specs.declared.diagnostic_data.DiagnosticData.{DiagnosticData}
use Rattle.gql_rules_values.specs.Faults.{name_fault, only_if}

abbrev pub reserved_name : Named → List DiagnosticData
reserved_name name = only_if (is_reserved name.text) (name_fault ReservedName name)
