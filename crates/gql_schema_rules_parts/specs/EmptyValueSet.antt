-- An enum has values: section 3.9 of GraphQL October 2021.
use Rattle.std.specs.Prelude.{Bool, true, false, List, [], ◌∷◌}
use Rattle.gql_ast_base.specs.Names.{Named}
use Rattle.gql_diag_messages.specs.declared.rule.Rule.TheVariants.{EmptyValueSet}
use Rattle.gql_diag_messages.specs.declared.diagnostic_data.DiagnosticData.{DiagnosticData}
use Rattle.gql_rules_values.specs.Faults.{name_fault, only_if}
use Rattle.gql_ast.specs.declared.field_definition.EnumValueDefinition.{EnumValueDefinition}

abbrev pub is_empty : List EnumValueDefinition → Bool
is_empty [] = true
is_empty (one ∷ more) = false

-- the values of a type of this name
abbrev pub empty_value_set : Named → List EnumValueDefinition → List DiagnosticData
empty_value_set name values = only_if (is_empty values) (name_fault EmptyValueSet name)
