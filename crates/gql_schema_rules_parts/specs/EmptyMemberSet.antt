-- A union has members: section 3.8 of GraphQL October 2021.
use Rattle.std.specs.Prelude.{Bool, true, false, List, [], ◌∷◌}
use Rattle.gql_ast_base.specs.Names.{Named}
use Rattle.gql_diag_messages.specs.declared.rule.Rule.TheVariants.{EmptyMemberSet}
use Rattle.gql_diag_messages.specs.declared.diagnostic_data.DiagnosticData.{DiagnosticData}
use Rattle.gql_rules_values.specs.Faults.{name_fault, only_if}

abbrev pub is_empty : List Named → Bool
is_empty [] = true
is_empty (one ∷ more) = false

-- the members of a type of this name
abbrev pub empty_member_set : Named → List Named → List DiagnosticData
empty_member_set name members = only_if (is_empty members) (name_fault EmptyMemberSet name)
