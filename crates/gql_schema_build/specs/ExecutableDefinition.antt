-- A schema has no operations and no fragments: section 3.1 of GraphQL October 2021. Section 5.1.1, Executable Definitions, is the
-- rule TypeSystemDefinition on documents.
use Rattle.std.specs.Prelude.{List, [], ◌∷◌, None, codes}
use Rattle.std.specs.List.{flat_map}
use Rattle.gql_ast.specs.declared.definition.Definition.{Definition}
use Rattle.gql_ast.specs.declared.definition.Definition.TheVariants.{OperationDefinition, FragmentDefinition}
use Rattle.gql_diag_messages.specs.declared.rule.Rule.TheVariants.{ExecutableDefinition}
use Rattle.gql_diag_messages.specs.declared.diagnostic_data.DiagnosticData.{DiagnosticData}
use Rattle.gql_schema_build.specs.Faults.{fault}

abbrev pub executable_definition : Definition → List DiagnosticData
executable_definition (OperationDefinition it) = fault ExecutableDefinition (codes "an operation definition" ∷ []) it.location None ∷ []
executable_definition (FragmentDefinition it) = fault ExecutableDefinition (codes "a fragment definition" ∷ []) it.location None ∷ []
executable_definition _ = []

-- one for each operation and each fragment
abbrev pub executable_definitions : List Definition → List DiagnosticData
executable_definitions ds = flat_map executable_definition ds
