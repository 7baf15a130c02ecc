-- An input object type has fields: section 3.10 of GraphQL October 2021.
use Rattle.std.specs.Prelude.{Bool, true, false, List, [], ◌∷◌}
use Rattle.gql_ast_base.specs.Names.{Named}
use Rattle.gql_diag_messages.specs.declared.rule.Rule.TheVariants.{EmptyInputValueSet}
use Rattle.gql_diag_messages.specs.declared.diagnostic_data.DiagnosticData.{DiagnosticData}
use Rattle.gql_rules_values.specs.Faults.{name_fault, only_if}
use Rattle.gql_ast.specs.declared.field_definition.InputValueDefinition.{InputValueDefinition}

abbrev pub is_empty : List InputValueDefinition → Bool
is_empty [] = true
is_empty (one ∷ more) = false

-- the fields of a type of this name
abbrev pub empty_input_value_set : Named → List InputValueDefinition → List DiagnosticData
empty_input_value_set name fields = only_if (is_empty fields) (name_fault EmptyInputValueSet name)
