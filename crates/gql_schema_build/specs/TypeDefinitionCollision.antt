-- Types have distinct names, the built-in types included: section 3.3 of GraphQL October 2021.
use Rattle.std.specs.Prelude.{List, [], map}
use Rattle.gql_diag_messages.specs.declared.rule.Rule.TheVariants.{TypeDefinitionCollision}
use Rattle.gql_diag_messages.specs.declared.diagnostic_data.DiagnosticData.{DiagnosticData}
use Rattle.gql_schema_types.specs.Entries.{repeats}
use Rattle.gql_schema_build.specs.DefinitionNames.{definition_name}
use Rattle.gql_schema_build.specs.Faults.{name_fault}
use Rattle.gql_schema_build.specs.declared.type_definition.TypeDefinition.{TypeDefinition}

-- a second definition of a name
abbrev pub second : TypeDefinition → TypeDefinition → DiagnosticData
second d first = name_fault TypeDefinitionCollision (definition_name d) (definition_name first).location

-- one for each definition of a name that came before
abbrev pub type_definition_collisions : List TypeDefinition → List DiagnosticData
type_definition_collisions ds = map (λ pair. second pair.0 pair.1) (repeats definition_name [] ds)
