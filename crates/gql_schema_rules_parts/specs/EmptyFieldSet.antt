-- An object type or an interface has fields: sections 3.6 and 3.7 of GraphQL October 2021.
use Rattle.std.specs.Prelude.{Bool, true, false, List, [], ◌∷◌}
use Rattle.gql_ast_base.specs.Names.{Named}
use Rattle.gql_diag_messages.specs.declared.rule.Rule.TheVariants.{EmptyFieldSet}
use Rattle.gql_diag_messages.specs.declared.diagnostic_data.DiagnosticData.{DiagnosticData}
use Rattle.gql_rules_values.specs.Faults.{name_fault, only_if}
use Rattle.gql_ast.specs.declared.field_definition.FieldDefinition.{FieldDefinition}

abbrev pub is_empty : List FieldDefinition → Bool
is_empty [] = true
is_empty (one ∷ more) = false

-- the fields of a type of this name
abbrev pub empty_field_set : Named → List FieldDefinition → List DiagnosticData
empty_field_set name fields = only_if (is_empty fields) (name_fault EmptyFieldSet name)
