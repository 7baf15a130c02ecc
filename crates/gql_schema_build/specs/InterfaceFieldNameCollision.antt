-- The fields of an interface have distinct names: sections 3.7 and 3.7.1 of GraphQL October 2021.
use Rattle.std.specs.Prelude.{ℕ, List}
use Rattle.gql_ast.specs.declared.field_definition.FieldDefinition.{FieldDefinition}
use Rattle.gql_diag_messages.specs.declared.rule.Rule.TheVariants.{InterfaceFieldNameCollision}
use Rattle.gql_diag_messages.specs.declared.diagnostic_data.DiagnosticData.{DiagnosticData}
use Rattle.gql_schema_build.specs.Faults.{collisions}
use Rattle.gql_schema_build.specs.PartNames.{field_name}

-- one for each that has the name of one that came before
abbrev pub interface_field_name_collisions : List ℕ → List FieldDefinition → List DiagnosticData
interface_field_name_collisions owner fields = collisions field_name InterfaceFieldNameCollision owner fields
