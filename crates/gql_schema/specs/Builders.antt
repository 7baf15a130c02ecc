-- What a builder of schemas has taken, and what it answers.
use Rattle.std.specs.Prelude.{◌≡◌, Bool, true, false, List, [], ◌++◌, Result, Err, if◌then◌else◌}
use Rattle.gql_source.specs.File.{Files, joined}
use Rattle.jb_text.specs.declared.refused.Refused.{Refused}
use Rattle.jb_text.specs.declared.refused.Refused.TheVariants.{Memory}
use Rattle.gql_ast.specs.declared.document.Document.{Document}
use Rattle.gql_diag.specs.Judged.{IsJudged}
use Rattle.gql_diag.specs.List.{Diagnostics}
use Rattle.gql_diag.specs.declared.with_errors.WithErrors.{WithErrors}
use Rattle.gql_diag_messages.specs.declared.diagnostic_data.DiagnosticData.{DiagnosticData}
use Rattle.gql_schema_types.specs.declared.schema.Schema.{Schema}
use Rattle.gql_schema_build.specs.Build as build
use Rattle.gql_schema_build.specs.ExecutableDefinition.{executable_definitions}
use Rattle.gql_schema_build.specs.TypeSystems.{with_definitions, no_definitions}
use Rattle.gql_schema_build.specs.declared.built_in.BuiltIn.{BuiltIn}
use Rattle.gql_schema_build.specs.declared.type_system.TypeSystem.{TypeSystem}
use Rattle.gql_schema.specs.declared.schema_builder.SchemaBuilder.{SchemaBuilder}

-- what has been taken
pub record Taken : Type 0 where
  pub sources : Files
  pub built_in : BuiltIn
  pub user : TypeSystem
  pub faults : List DiagnosticData
  pub ignores : Bool
  pub refused : Bool

-- what a builder has taken
abbrev pub taken : SchemaBuilder → Taken
taken b = record { sources = b.sources; built_in = b.built_in; user = b.user; faults = b.faults; ignores = b.ignores; refused = b.refused }

-- with the definitions, the files and the faults of one document more
abbrev pub with_document : Taken → Document → Diagnostics → Bool → Taken
with_document taken document given executable = record taken {
  sources = joined (joined taken.sources given.sources) document.sources;
  user = with_definitions taken.user document.definitions;
  faults = taken.faults ++ given.items ++ (if executable then executable_definitions document.definitions else []);
}

-- the schema of what has been taken, and every fault
abbrev pub built : Taken → Schema
built taken = build.built taken.sources taken.ignores taken.built_in taken.user

abbrev pub all_faults : Taken → List DiagnosticData
all_faults taken = taken.faults ++ build.build_faults taken.ignores taken.built_in taken.user

abbrev pub nothing_taken : Files → BuiltIn → Taken
nothing_taken sources built_in = record { sources = sources; built_in = built_in; user = no_definitions; faults = []; ignores = false; refused = false }

-- The answer judges the schema of what was taken by every fault. Once a call was out of memory, so is the answer.
pub record IsAnswer (taken : Taken) (answer : Result Schema (Refused (WithErrors Schema))) : Type 0 where
  pub judged : IsJudged (built taken) (built taken).sources (all_faults taken) answer
  pub refused : taken.refused ≡ true → answer ≡ Err Memory
