-- A union lists a member once: sections 3.8 and 3.8.1 of GraphQL October 2021.
use Rattle.std.specs.Prelude.{ℕ, List}
use Rattle.gql_ast_base.specs.Names.{Named}
use Rattle.gql_diag_messages.specs.declared.rule.Rule.TheVariants.{UnionMemberNameCollision}
use Rattle.gql_diag_messages.specs.declared.diagnostic_data.DiagnosticData.{DiagnosticData}
use Rattle.gql_schema_build.specs.Faults.{name_collisions}

-- one for each name that the owner lists again
abbrev pub union_member_name_collisions : List ℕ → List Named → List DiagnosticData
union_member_name_collisions owner names = name_collisions UnionMemberNameCollision owner names
