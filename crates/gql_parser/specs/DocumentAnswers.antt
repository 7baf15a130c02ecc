-- What is answered of the text of a document. Want of memory alone is free.
use Rattle.std.specs.Prelude.{◌≡◌, ℕ, List, [], Result, Ok, Err}
use Rattle.jb_text.specs.declared.refused.Refused.{Refused}
use Rattle.jb_text.specs.declared.refused.Refused.TheVariants.{Fault, Memory}
use Rattle.gql_diag.specs.List.{Diagnostics}
use Rattle.gql_document.specs.Builders.{Taken, built, all_faults}
use Rattle.gql_document_types.specs.declared.document.ExecutableDocument.{ExecutableDocument}
use Rattle.gql_schema_types.specs.declared.schema.Schema.{Schema}
use Rattle.gql_parser.specs.DocumentFaults.{DocumentFaults}
use Rattle.gql_parser.specs.DocumentText.{AreDefinitions, DocumentText}

-- the document that the text means, or what is wrong with it
abbrev pub IsDocumentAnswer : Schema → List ℕ → Result ExecutableDocument (Refused Diagnostics) → Type 0
IsDocumentAnswer schema text (Ok document) = DocumentText schema text document
IsDocumentAnswer schema text (Err (Fault list)) = DocumentFaults schema text list
IsDocumentAnswer schema text (Err Memory) = Unit {0}

-- ---- phase by phase

-- the document that the definitions of the text build without a fault
pub record IsBuiltOf (schema : Schema) (text : List ℕ) (document : ExecutableDocument) : Type 0 where
  pub taken : Taken
  pub definitions : AreDefinitions schema text taken
  pub builds : all_faults taken ≡ []
  pub is : document ≡ built taken
