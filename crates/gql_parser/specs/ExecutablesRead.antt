-- What comes of a file that is read into a builder of executable documents, and of one that is read as such a document.
use Rattle.std.specs.Prelude.{◌≡◌, true, Result, Ok, Err}
use Rattle.jb_text.specs.declared.refused.Refused.{Refused}
use Rattle.jb_text.specs.declared.refused.Refused.TheVariants.{Fault, Memory}
use Rattle.gql_ast.specs.declared.document.Document.{Document}
use Rattle.gql_diag.specs.List.{Diagnostics}
use Rattle.gql_diag.specs.declared.with_errors.WithErrors.{WithErrors}
use Rattle.gql_document_types.specs.declared.document.ExecutableDocument.{ExecutableDocument}
use Rattle.gql_document.specs.Builders.{Taken, with_document, nothing_taken, IsAnswer}
use Rattle.gql_schema_types.specs.declared.schema.Schema.{Schema}
use Rattle.gql_parser.specs.Parsers.{ParserState, Given}
use Rattle.gql_parser.specs.FileRead.{IsFileRead}

-- The builder has taken what the file is read as. Definitions of a type system in it are faults.
pub record Takes (parser : ParserState) (given : Given) (old new : Taken) : Type 0 where
  pub document : Document
  pub errors : Diagnostics
  pub read : IsFileRead parser given document errors
  pub taken : new ≡ with_document old document errors true

-- the answer of a builder against the schema that has taken the file and nothing else
pub record IsBuilt (parser : ParserState) (given : Given) (schema : Schema)
    (answer : Result ExecutableDocument (Refused (WithErrors ExecutableDocument))) : Type 0 where
  pub taken : Taken
  pub takes : Takes parser given (nothing_taken schema) taken
  pub answers : IsAnswer taken answer

-- of a document, or of one beside its faults; out of memory tells nothing
abbrev pub IsExecutableAnswer : ParserState → Given → Schema → Result ExecutableDocument (Refused (WithErrors ExecutableDocument)) → Type 0
IsExecutableAnswer parser given schema (Ok document) = IsBuilt parser given schema (Ok document)
IsExecutableAnswer parser given schema (Err (Fault refusal)) = IsBuilt parser given schema (Err (Fault refusal))
IsExecutableAnswer parser given schema (Err Memory) = Unit {0}
