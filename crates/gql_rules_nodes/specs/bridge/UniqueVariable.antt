-- What only private clauses and proofs cite, beside `UniqueVariable`.
use Rattle.std.specs.Prelude.{List}
use Rattle.gql_ast.specs.declared.operation.VariableDefinition.{VariableDefinition}
use Rattle.gql_diag_messages.specs.declared.rule.Rule.TheVariants.{UniqueVariable}
use Rattle.gql_diag_messages.specs.declared.diagnostic_data.DiagnosticData.{DiagnosticData}
use Rattle.gql_rules_values.specs.Seconds.{Seen, with_seen, second_here}
use Rattle.gql_rules_values.specs.UniqueInputValue.{each}
use Rattle.gql_rules_nodes.specs.UniqueVariable.{variable_name, variable_place}

-- the names that came before, with this variable's
abbrev pub with_variable : Seen → VariableDefinition → Seen
with_variable seen variable = with_seen variable_name variable_place seen variable

-- a variable whose name came before
abbrev pub second_variable : Seen → VariableDefinition → List DiagnosticData
second_variable seen variable = second_here variable_name variable_place each UniqueVariable seen variable
