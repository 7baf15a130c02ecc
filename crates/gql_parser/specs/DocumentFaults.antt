-- What is wrong with the text of a document against a schema, phase by phase: the first phase that finds something is told.
use Rattle.std.specs.Prelude.{◌≡◌, ◌≢◌, ℕ, List, []}
use Rattle.gql_lexer.specs.declared.error.CstError.{CstError}
use Rattle.gql_diag.specs.List.{Diagnostics, IsStableSort}
use Rattle.gql_diag.specs.Order.{list_order}
use Rattle.gql_diag_messages.specs.declared.diagnostic_data.DiagnosticData.{DiagnosticData}
use Rattle.gql_document.specs.Builders.{Taken, built, all_faults}
use Rattle.gql_parser.specs.Diagnosed.{list_of}
use Rattle.gql_parser.specs.Parsers.{its_file}
use Rattle.gql_parser.specs.Sentences.{StopsAt}
use Rattle.gql_rules.specs.DocumentFaults.{AreDocumentFaults}
use Rattle.gql_schema_types.specs.declared.schema.Schema.{Schema}
use Rattle.gql_parser.specs.DocumentText.{AreDefinitions, its_given}

-- these diagnostics in the order of lists, with the text's file
pub record IsListOf (text : List ℕ) (faults : List DiagnosticData) (list : Diagnostics) : Type 0 where
  pub some : faults ≢ []
  pub items : IsStableSort list_order faults list.items
  pub sources : list.sources ≡ its_file (its_given text)

-- The error that ends the reading, alone; or every fault of the build, where there are some; or else every fault that a rule finds.
pub data DocumentFaults (schema : Schema) (text : List ℕ) : Diagnostics → Type 0 where
  no_sentence : (error : CstError) → StopsAt text error → DocumentFaults schema text (list_of (its_given text) error)
  no_build : (list : Diagnostics) (taken : Taken) → AreDefinitions schema text taken → IsListOf text (all_faults taken) list
      → DocumentFaults schema text list
  broken : (list : Diagnostics) (taken : Taken) (faults : List DiagnosticData) → AreDefinitions schema text taken → all_faults taken ≡ []
      → AreDocumentFaults schema (built taken) faults → IsListOf text faults list → DocumentFaults schema text list
