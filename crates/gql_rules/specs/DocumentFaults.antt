-- All that is wrong with a document: what each rule of section 5 of GraphQL October 2021 says of its nodes.
use Rattle.std.specs.Prelude.{◌≡◌, ◌⊎◌, List, [], ◌∷◌, ◌++◌}
use Rattle.gql_diag.specs.List.{IsStableSort}
use Rattle.gql_diag.specs.Order.{list_order}
use Rattle.gql_diag_messages.specs.declared.diagnostic_data.DiagnosticData.{DiagnosticData}
use Rattle.gql_document_types.specs.declared.document.ExecutableDocument.{ExecutableDocument}
use Rattle.gql_rules_nodes.specs.DocumentNodes.{document_nodes_faults}
use Rattle.gql_rules_nodes.specs.SpreadFaults.{AreSpreadFaults}
use Rattle.gql_rules_nodes.specs.UnusedFragment.{AreUnused}
use Rattle.gql_rules_merging.specs.FieldSelectionMerging.{AreConflicts}
use Rattle.gql_rules.specs.VariableFaults.{AreVariableFaults}
use Rattle.gql_diag.specs.Taken.{HasListedSome}
use Rattle.gql_schema_types.specs.declared.schema.Schema.{Schema}

-- What the rules say of a document whose spreads are right. Each of them stands alone: what one lists, no other leaves out.
pub record AreOtherFaults (schema : Schema) (document : ExecutableDocument) (faults : List DiagnosticData) : Type 0 where
  pub unused : List DiagnosticData
  pub are_unused : AreUnused document unused
  pub variables : List DiagnosticData
  pub are_variables : AreVariableFaults schema document variables
  pub conflicts : List DiagnosticData
  pub are_conflicts : AreConflicts schema.types document conflicts
  pub whole : faults ≡ ((document_nodes_faults schema document ++ unused) ++ variables) ++ conflicts

-- some diagnostics alone; or, where there are none, such ones
abbrev pub AreFirstOrAll : (List DiagnosticData → Type 0) → List DiagnosticData → List DiagnosticData → Type 0
AreFirstOrAll AreOthers [] faults = AreOthers faults
AreFirstOrAll AreOthers (first ∷ firsts) faults = faults ≡ first ∷ firsts

-- what is wrong with the spreads alone, or else what the other rules say
pub record AreDocumentFaults (schema : Schema) (document : ExecutableDocument) (faults : List DiagnosticData) : Type 0 where
  pub spreads : List DiagnosticData
  pub are_spreads : AreSpreadFaults document spreads
  pub whole : AreFirstOrAll (AreOtherFaults schema document) spreads faults

-- a list that had the first diagnostics and now has the second, with all the faults of the document
abbrev pub HasListedAllFaults : Schema → ExecutableDocument → List DiagnosticData → List DiagnosticData → Type 0
HasListedAllFaults schema document old new =
    (faults : List DiagnosticData) × AreDocumentFaults schema document faults × IsStableSort list_order (old ++ faults) new

-- the same with nothing more than it had, or with some of the faults of the document
abbrev pub HasListedSomeFaults : Schema → ExecutableDocument → List DiagnosticData → List DiagnosticData → Type 0
HasListedSomeFaults schema document old new =
    (new ≡ old) ⊎ ((faults : List DiagnosticData) × AreDocumentFaults schema document faults × HasListedSome old faults new)
