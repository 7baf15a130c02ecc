-- What is wrong with the text of a schema, phase by phase: the first phase that finds something is told.
use Rattle.std.specs.Prelude.{◌≡◌, ◌≢◌, ℕ, List, [], ◌∷◌, ◌++◌}
use Rattle.gql_source.specs.File.{Files}
use Rattle.gql_lexer.specs.declared.error.CstError.{CstError}
use Rattle.gql_diag.specs.List.{Diagnostics, IsStableSort}
use Rattle.gql_diag.specs.Order.{list_order}
use Rattle.gql_diag_messages.specs.declared.diagnostic_data.DiagnosticData.{DiagnosticData}
use Rattle.gql_parser.specs.Diagnosed.{diagnostic}
use Rattle.gql_parser.specs.Parsers.{its_file}
use Rattle.gql_parser.specs.Sentences.{StopsAt}
use Rattle.gql_schema.specs.BuiltInSchema.{built_in_sources}
use Rattle.gql_schema.specs.Builders.{Taken, built, all_faults}
use Rattle.gql_schema_rules.specs.SchemaFaults.{AreSchemaFaults}
use Rattle.gql_parser.specs.SchemaText.{AreDefinitions, its_given}

-- the file of the built-in definitions, and the text's
abbrev pub all_files : List ℕ → Files
all_files text = built_in_sources ++ its_file (its_given text)

-- these diagnostics in the order of lists
pub record IsListOf (text : List ℕ) (faults : List DiagnosticData) (list : Diagnostics) : Type 0 where
  pub some : faults ≢ []
  pub items : IsStableSort list_order faults list.items
  pub sources : list.sources ≡ all_files text

-- The error that ends the reading, alone; or every fault of the build, where there are some; or else every fault that a rule finds.
pub data SchemaFaults (text : List ℕ) : Diagnostics → Type 0 where
  no_sentence : (error : CstError) → StopsAt text error
      → SchemaFaults text (record { sources = all_files text; items = diagnostic (its_given text).file error ∷ [] })
  no_build : (list : Diagnostics) (taken : Taken) → AreDefinitions text taken → IsListOf text (all_faults taken) list → SchemaFaults text list
  broken : (list : Diagnostics) (taken : Taken) (faults : List DiagnosticData) → AreDefinitions text taken → all_faults taken ≡ []
      → AreSchemaFaults (built taken) faults → IsListOf text faults list → SchemaFaults text list
