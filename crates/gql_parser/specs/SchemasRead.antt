-- What comes of a file that is read into a builder of schemas, and of one that is read as a schema.
use Rattle.std.specs.Prelude.{◌≡◌, true, Result, Ok, Err}
use Rattle.jb_text.specs.declared.refused.Refused.{Refused}
use Rattle.jb_text.specs.declared.refused.Refused.TheVariants.{Fault, Memory}
use Rattle.gql_ast.specs.declared.document.Document.{Document}
use Rattle.gql_diag.specs.List.{Diagnostics}
use Rattle.gql_diag.specs.declared.with_errors.WithErrors.{WithErrors}
use Rattle.gql_schema_types.specs.declared.schema.Schema.{Schema}
use Rattle.gql_schema_build.specs.declared.built_in.BuiltIn.{BuiltIn}
use Rattle.gql_schema.specs.Builders.{Taken, with_document, nothing_taken, IsAnswer}
use Rattle.gql_schema.specs.BuiltInSchema.{IsBuiltIn, built_in_sources}
use Rattle.gql_parser.specs.Parsers.{ParserState, Given}
use Rattle.gql_parser.specs.FileRead.{IsFileRead}

-- The builder has taken what the file is read as. Operations and fragments in it are faults.
pub record Takes (parser : ParserState) (given : Given) (old new : Taken) : Type 0 where
  pub document : Document
  pub errors : Diagnostics
  pub read : IsFileRead parser given document errors
  pub taken : new ≡ with_document old document errors true

-- the answer of a builder that has taken the file and nothing else
pub record IsBuilt (parser : ParserState) (given : Given) (answer : Result Schema (Refused (WithErrors Schema))) : Type 0 where
  pub built_in : BuiltIn
  pub meant : IsBuiltIn built_in
  pub taken : Taken
  pub takes : Takes parser given (nothing_taken built_in_sources built_in) taken
  pub answers : IsAnswer taken answer

-- of a schema, or of one beside its faults; out of memory tells nothing
abbrev pub IsSchemaAnswer : ParserState → Given → Result Schema (Refused (WithErrors Schema)) → Type 0
IsSchemaAnswer parser given (Ok schema) = IsBuilt parser given (Ok schema)
IsSchemaAnswer parser given (Err (Fault refusal)) = IsBuilt parser given (Err (Fault refusal))
IsSchemaAnswer parser given (Err Memory) = Unit {0}
