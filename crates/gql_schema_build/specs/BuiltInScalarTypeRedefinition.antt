-- Built-in scalars are not defined again: section 3.5 of GraphQL October 2021.
use Rattle.std.specs.Prelude.{Bool, true, false, if◌then◌else◌, List, [], ◌∷◌, None}
use Rattle.std.specs.List.{flat_map}
use Rattle.std.specs.Option.{option_map_or}
use Rattle.gql_diag_messages.specs.declared.rule.Rule.TheVariants.{BuiltInScalarTypeRedefinition}
use Rattle.gql_diag_messages.specs.declared.diagnostic_data.DiagnosticData.{DiagnosticData}
use Rattle.gql_schema_types.specs.Entries.{entry}
use Rattle.gql_schema_build.specs.DefinitionLocations.{definition_location}
use Rattle.gql_schema_build.specs.DefinitionNames.{definition_name}
use Rattle.gql_schema_build.specs.Faults.{fault}
use Rattle.gql_schema_build.specs.declared.type_definition.TypeDefinition.{TypeDefinition}
use Rattle.gql_schema_build.specs.declared.type_definition.TypeDefinition.TheVariants.{Scalar}

abbrev pub is_scalar : TypeDefinition → Bool
is_scalar (Scalar _) = true
is_scalar _ = false

module _ (built_in : List TypeDefinition) where
  -- is it a definition of a scalar that is built in?
  abbrev pub redefines : TypeDefinition → Bool
  redefines (Scalar d) = option_map_or is_scalar (entry definition_name d.name.text built_in) false
  redefines _ = false

  abbrev pub redefinition : TypeDefinition → DiagnosticData
  redefinition d = fault BuiltInScalarTypeRedefinition [] (definition_location d) None

  abbrev pub redefinition_of : TypeDefinition → List DiagnosticData
  redefinition_of d = if redefines d then redefinition d ∷ [] else []

  abbrev pub other : TypeDefinition → List TypeDefinition
  other d = if redefines d then [] else d ∷ []

  -- one for each definition of a built-in scalar
  abbrev pub built_in_scalar_type_redefinitions : List TypeDefinition → List DiagnosticData
  built_in_scalar_type_redefinitions ds = flat_map redefinition_of ds

  -- the other definitions
  abbrev pub without_redefinitions : List TypeDefinition → List TypeDefinition
  without_redefinitions ds = flat_map other ds
