-- An object type lists an interface once: sections 3.6 and 3.6.3 of GraphQL October 2021.
use Rattle.std.specs.Prelude.{ℕ, List}
use Rattle.gql_ast_base.specs.Names.{Named}
use Rattle.gql_diag_messages.specs.declared.rule.Rule.TheVariants.{DuplicateImplementsInterfaceInObject}
use Rattle.gql_diag_messages.specs.declared.diagnostic_data.DiagnosticData.{DiagnosticData}
use Rattle.gql_schema_build.specs.Faults.{name_collisions}

-- one for each name that the owner lists again
abbrev pub duplicate_interfaces_in_object : List ℕ → List Named → List DiagnosticData
duplicate_interfaces_in_object owner names = name_collisions DuplicateImplementsInterfaceInObject owner names
