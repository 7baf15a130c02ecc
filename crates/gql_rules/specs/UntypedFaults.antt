-- All that is wrong with definitions, whatever the schema: sections 5.1.1, 5.2, 5.4.2, 5.5 and 5.8 of GraphQL October 2021.
use Rattle.std.specs.Prelude.{◌≡◌, List, ◌++◌}
use Rattle.std.specs.List.{flat_map}
use Rattle.gql_ast.specs.declared.definition.Definition.{Definition}
use Rattle.gql_diag_messages.specs.declared.diagnostic_data.DiagnosticData.{DiagnosticData}
use Rattle.gql_document.specs.DistinctDefinitions.{definition_faults, distinct_definitions}
use Rattle.gql_document_types.specs.declared.document.ExecutableDocument.{ExecutableDocument}
use Rattle.gql_rules.specs.DocumentFaults.{AreFirstOrAll}
use Rattle.gql_rules_nodes.specs.SpreadFaults.{AreSpreadFaults}
use Rattle.gql_rules_nodes.specs.UnusedFragment.{AreUnused}
use Rattle.gql_rules_nodes.specs.Nodes.{nodes}
use Rattle.gql_rules.specs.NoSchema.{no_schema}
use Rattle.gql_rules.specs.UniqueArguments.{node_arguments}
use Rattle.gql_rules.specs.UniqueVariables.{unique_variables}
use Rattle.gql_rules.specs.UntypedDocument.{untyped_document}
use Rattle.gql_rules.specs.VariableFaults.{AreVariableFaults}

-- What the rules say of a document whose spreads are right. No variable is used where a type is known, so that none is told to stand
-- where its values may not.
pub record AreOtherFaults (document : ExecutableDocument) (faults : List DiagnosticData) : Type 0 where
  pub unused : List DiagnosticData
  pub are_unused : AreUnused document unused
  pub variables : List DiagnosticData
  pub are_variables : AreVariableFaults no_schema document variables
  pub whole : faults ≡ ((unused ++ variables) ++ unique_variables document.operations) ++ flat_map node_arguments (nodes document)

-- what is wrong with the spreads of a document alone, or else what the other rules say
pub record AreDocumentFaults (document : ExecutableDocument) (faults : List DiagnosticData) : Type 0 where
  pub spreads : List DiagnosticData
  pub are_spreads : AreSpreadFaults document spreads
  pub whole : AreFirstOrAll (AreOtherFaults document) spreads faults

-- what is wrong with definitions by themselves, or else with the document that they are
pub record AreUntypedFaults (definitions : List Definition) (faults : List DiagnosticData) : Type 0 where
  pub whole : AreFirstOrAll (AreDocumentFaults (untyped_document (distinct_definitions definitions))) (definition_faults definitions) faults
