-- What a builder of documents has taken, and what it answers.
use Rattle.std.specs.Prelude.{◌≡◌, Bool, true, false, List, [], ◌++◌, Result, Err, if◌then◌else◌}
use Rattle.gql_source.specs.File.{Files, joined}
use Rattle.jb_text.specs.declared.refused.Refused.{Refused}
use Rattle.jb_text.specs.declared.refused.Refused.TheVariants.{Memory}
use Rattle.gql_ast.specs.declared.document.Document.{Document}
use Rattle.gql_diag.specs.Judged.{IsJudged}
use Rattle.gql_diag.specs.List.{Diagnostics}
use Rattle.gql_diag.specs.declared.with_errors.WithErrors.{WithErrors}
use Rattle.gql_diag_messages.specs.declared.diagnostic_data.DiagnosticData.{DiagnosticData}
use Rattle.gql_document_types.specs.declared.document.ExecutableDocument.{ExecutableDocument}
use Rattle.gql_schema_types.specs.declared.schema.Schema.{Schema}
use Rattle.gql_document.specs.Build as build
use Rattle.gql_document.specs.Definitions.{with_definitions, no_definitions}
use Rattle.gql_document.specs.TypeSystemDefinition.{type_system_definitions}
use Rattle.gql_document.specs.declared.executable_definitions.ExecutableDefinitions.{ExecutableDefinitions}
use Rattle.gql_document.specs.declared.executable_document_builder.ExecutableDocumentBuilder.{ExecutableDocumentBuilder}

-- what has been taken, and the schema that it is built against
pub record Taken : Type 0 where
  pub schema : Schema
  pub sources : Files
  pub definitions : ExecutableDefinitions
  pub faults : List DiagnosticData
  pub refused : Bool

-- what a builder has taken
abbrev pub taken : ExecutableDocumentBuilder → Taken
taken b = record { schema = b.schema.now; sources = b.sources; definitions = b.definitions; faults = b.faults; refused = b.refused }

abbrev pub nothing_taken : Schema → Taken
nothing_taken schema = record { schema = schema; sources = []; definitions = no_definitions; faults = []; refused = false }

-- with the definitions, the files and the faults of one document more
abbrev pub with_document : Taken → Document → Diagnostics → Bool → Taken
with_document taken document given type_systems = record taken {
  sources = joined (joined taken.sources given.sources) document.sources;
  definitions = with_definitions taken.definitions document.definitions;
  faults = taken.faults ++ given.items ++ (if type_systems then type_system_definitions document.definitions else []);
}

-- the document of what has been taken, and every fault
abbrev pub built : Taken → ExecutableDocument
built taken = build.built taken.schema taken.sources taken.definitions

abbrev pub all_faults : Taken → List DiagnosticData
all_faults taken = taken.faults ++ build.build_faults taken.schema taken.definitions

-- The answer judges the document of what was taken by every fault. Once a call was out of memory, so is the answer.
pub record IsAnswer (taken : Taken) (answer : Result ExecutableDocument (Refused (WithErrors ExecutableDocument))) : Type 0 where
  pub judged : IsJudged (built taken) taken.sources (all_faults taken) answer
  pub refused : taken.refused ≡ true → answer ≡ Err Memory
