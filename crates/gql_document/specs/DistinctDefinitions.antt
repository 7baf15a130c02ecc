-- The operations and fragments of a document, of each name the first, and what is wrong with definitions by themselves, whatever the
-- schema: sections 5.1.1, 5.2.1.1, 5.2.2.1 and 5.5.1.1 of GraphQL October 2021.
use Rattle.std.specs.Prelude.{List, ◌++◌}
use Rattle.std.specs.List.{flat_map}
use Rattle.gql_ast.specs.declared.definition.Definition.{Definition}
use Rattle.gql_diag_messages.specs.declared.diagnostic_data.DiagnosticData.{DiagnosticData}
use Rattle.gql_document.specs.AmbiguousAnonymousOperation.{are_several, ambiguous_anonymous_operation}
use Rattle.gql_document.specs.Definitions.{with_definitions, no_definitions}
use Rattle.gql_document.specs.FragmentNameCollision.{first_fragments, fragment_name_collisions}
use Rattle.gql_document.specs.OperationNameCollision.{first_operations, operation_name_collisions}
use Rattle.gql_document.specs.TypeSystemDefinition.{type_system_definitions}
use Rattle.gql_document.specs.declared.executable_definitions.ExecutableDefinitions.{ExecutableDefinitions}

-- ---- of operations and fragments

abbrev pub distinct : ExecutableDefinitions → ExecutableDefinitions
distinct taken = record { operations = first_operations taken.operations; fragments = first_fragments taken.fragments }

abbrev pub faults_of : ExecutableDefinitions → List DiagnosticData
faults_of taken =
    flat_map (ambiguous_anonymous_operation (are_several taken.operations)) taken.operations
    ++ (operation_name_collisions taken.operations ++ fragment_name_collisions taken.fragments)

-- ---- of all definitions

abbrev pub executable_definitions : List Definition → ExecutableDefinitions
executable_definitions definitions = with_definitions no_definitions definitions

abbrev pub distinct_definitions : List Definition → ExecutableDefinitions
distinct_definitions definitions = distinct (executable_definitions definitions)

abbrev pub definition_faults : List Definition → List DiagnosticData
definition_faults definitions = type_system_definitions definitions ++ faults_of (executable_definitions definitions)
