-- The fields of an input object type have distinct names: sections 3.10 and 3.10.1 of GraphQL October 2021.
use Rattle.std.specs.Prelude.{ℕ, List}
use Rattle.gql_ast.specs.declared.field_definition.InputValueDefinition.{InputValueDefinition}
use Rattle.gql_diag_messages.specs.declared.rule.Rule.TheVariants.{InputFieldNameCollision}
use Rattle.gql_diag_messages.specs.declared.diagnostic_data.DiagnosticData.{DiagnosticData}
use Rattle.gql_schema_build.specs.Faults.{collisions}
use Rattle.gql_schema_build.specs.PartNames.{input_name}

-- one for each that has the name of one that came before
abbrev pub input_field_name_collisions : List ℕ → List InputValueDefinition → List DiagnosticData
input_field_name_collisions owner fields = collisions input_name InputFieldNameCollision owner fields
