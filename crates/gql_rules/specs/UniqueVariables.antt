-- Variables of each operation have distinct names: section 5.8.1 of GraphQL October 2021.
use Rattle.std.specs.Prelude.{List}
use Rattle.std.specs.List.{flat_map}
use Rattle.gql_diag_messages.specs.declared.diagnostic_data.DiagnosticData.{DiagnosticData}
use Rattle.gql_document_types.specs.declared.operation.Operation.{Operation}
use Rattle.gql_rules_nodes.specs.UniqueVariable.{unique_variable}

abbrev pub unique_variables : List Operation → List DiagnosticData
unique_variables operations = flat_map (λ (operation : Operation). unique_variable operation.variables) operations
