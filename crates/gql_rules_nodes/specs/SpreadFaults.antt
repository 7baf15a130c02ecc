-- What is wrong with the spreads of a document: sections 5.5.2.1 and 5.5.2.2 of GraphQL October 2021.
use Rattle.std.specs.Prelude.{◌≡◌, List, ◌++◌}
use Rattle.gql_diag_messages.specs.declared.diagnostic_data.DiagnosticData.{DiagnosticData}
use Rattle.gql_document_types.specs.declared.document.ExecutableDocument.{ExecutableDocument}
use Rattle.gql_rules_nodes.specs.RecursiveFragmentDefinition.{AreRecursive}
use Rattle.gql_rules_nodes.specs.UndefinedFragment.{undefined_fragments}

-- those that lead nowhere, and then those that lead back or too far
pub record AreSpreadFaults (document : ExecutableDocument) (told : List DiagnosticData) : Type 0 where
  pub cycles : List DiagnosticData
  pub recursive : AreRecursive document.fragments cycles
  pub whole : told ≡ undefined_fragments document ++ cycles
