-- An interface lists an interface once: sections 3.7 and 3.7.1 of GraphQL October 2021.
use Rattle.std.specs.Prelude.{ℕ, List}
use Rattle.gql_ast_base.specs.Names.{Named}
use Rattle.gql_diag_messages.specs.declared.rule.Rule.TheVariants.{DuplicateImplementsInterfaceInInterface}
use Rattle.gql_diag_messages.specs.declared.diagnostic_data.DiagnosticData.{DiagnosticData}
use Rattle.gql_schema_build.specs.Faults.{name_collisions}

-- one for each name that the owner lists again
abbrev pub duplicate_interfaces_in_interface : List ℕ → List Named → List DiagnosticData
duplicate_interfaces_in_interface owner names = name_collisions DuplicateImplementsInterfaceInInterface owner names
