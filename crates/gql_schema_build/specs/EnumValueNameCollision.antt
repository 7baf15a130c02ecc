-- The values of an enum have distinct names: sections 3.9 and 3.9.1 of GraphQL October 2021.
use Rattle.std.specs.Prelude.{ℕ, List}
use Rattle.gql_ast.specs.declared.field_definition.EnumValueDefinition.{EnumValueDefinition}
use Rattle.gql_diag_messages.specs.declared.rule.Rule.TheVariants.{EnumValueNameCollision}
use Rattle.gql_diag_messages.specs.declared.diagnostic_data.DiagnosticData.{DiagnosticData}
use Rattle.gql_schema_build.specs.Faults.{collisions}
use Rattle.gql_schema_build.specs.PartNames.{value_name}

-- one for each that has the name of one that came before
abbrev pub enum_value_name_collisions : List ℕ → List EnumValueDefinition → List DiagnosticData
enum_value_name_collisions owner values = collisions value_name EnumValueNameCollision owner values
