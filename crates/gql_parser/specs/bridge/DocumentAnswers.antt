-- What only private clauses and proofs cite, beside `DocumentAnswers`.
use Rattle.std.specs.Prelude.{◌≡◌, ◌≢◌, ℕ, List, [], Result, Ok, Err}
use Rattle.jb_text.specs.declared.refused.Refused.{Refused}
use Rattle.jb_text.specs.declared.refused.Refused.TheVariants.{Fault, Memory}
use Rattle.gql_diag.specs.List.{Diagnostics, IsStableSort}
use Rattle.gql_diag.specs.Order.{list_order}
use Rattle.gql_diag_messages.specs.declared.diagnostic_data.DiagnosticData.{DiagnosticData}
use Rattle.gql_document_types.specs.declared.document.ExecutableDocument.{ExecutableDocument}
use Rattle.gql_rules.specs.DocumentFaults.{AreDocumentFaults}
use Rattle.gql_schema_types.specs.declared.schema.Schema.{Schema}
use Rattle.gql_parser.specs.DocumentFaults.{DocumentFaults}
use Rattle.gql_parser.specs.DocumentAnswers.{IsBuiltOf}

-- that document, or what is wrong with the text before a rule is looked at
abbrev pub IsBuildRead : Schema → List ℕ → Result ExecutableDocument (Refused Diagnostics) → Type 0
IsBuildRead schema text (Ok document) = IsBuiltOf schema text document
IsBuildRead schema text (Err (Fault list)) = DocumentFaults schema text list
IsBuildRead schema text (Err Memory) = Unit {0}

-- every fault that a rule finds, in the order of lists and with the document's files
pub record AreRulesBroken (schema : Schema) (document : ExecutableDocument) (list : Diagnostics) : Type 0 where
  pub faults : List DiagnosticData
  pub are : AreDocumentFaults schema document faults
  pub some : faults ≢ []
  pub items : IsStableSort list_order faults list.items
  pub sources : list.sources ≡ document.sources

-- the document itself, where every rule holds
abbrev pub IsRuled : Schema → ExecutableDocument → Result ExecutableDocument (Refused Diagnostics) → Type 0
IsRuled schema document (Ok made) = AreDocumentFaults schema document [] × (made ≡ document)
IsRuled schema document (Err (Fault list)) = AreRulesBroken schema document list
IsRuled schema document (Err Memory) = Unit {0}
