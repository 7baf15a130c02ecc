-- What comes of a file that is read as selections on a type.
use Rattle.std.specs.Prelude.{◌≡◌, ◌⊎◌, List, [], Result, Ok, Err}
use Rattle.jb_text.specs.declared.refused.Refused.{Refused}
use Rattle.jb_text.specs.declared.refused.Refused.TheVariants.{Fault, Memory}
use Rattle.gql_lexer.specs.declared.error.CstError.{CstError}
use Rattle.gql_grammar.specs.declared.rule.Rule.TheVariants as rule
use Rattle.gql_cst.specs.Report.{Report}
use Rattle.gql_ast_base.specs.Names.{Named}
use Rattle.gql_ast.specs.declared.selection.Selection.{Selection}
use Rattle.gql_ast_laws.specs.Meant.{AreSelectionsOf}
use Rattle.gql_diag.specs.List.{Diagnostics}
use Rattle.gql_diag.specs.declared.with_errors.WithErrors.{WithErrors}
use Rattle.gql_document.specs.FieldSets.{built, all_faults}
use Rattle.gql_diag.specs.Judged.{IsJudged}
use Rattle.gql_document_types.specs.declared.document.FieldSet.{FieldSet}
use Rattle.gql_schema_types.specs.declared.schema.Schema.{Schema}
use Rattle.gql_parser.specs.Parsers.{ParserState, Given, its_file}
use Rattle.gql_parser.specs.Readings.{IsWhole, IsStopped}
use Rattle.gql_parser.specs.Diagnosed.{list_of}

-- the list that has the file and tells nothing
abbrev pub nothing_told : Given → Diagnostics
nothing_told given = record { sources = its_file given; items = [] }

-- the text is these selections, with braces around them or without, and nothing is told
pub record AreSelectionsWhole (parser : ParserState) (given : Given) (read : List Selection) (errors : Diagnostics) : Type 0 where
  pub report : Report
  pub whole : IsWhole parser rule.FieldSet given.text report
  pub mean : AreSelectionsOf given.text given.file read
  pub told : errors ≡ nothing_told given

-- the text is none: there is no selection, and the one diagnostic tells why
pub record AreSelectionsStopped (parser : ParserState) (given : Given) (read : List Selection) (errors : Diagnostics) : Type 0 where
  pub report : Report
  pub error : CstError
  pub stopped : IsStopped parser rule.FieldSet given.text report error
  pub none : read ≡ []
  pub told : errors ≡ list_of given error

abbrev pub AreSelectionsRead : ParserState → Given → List Selection → Diagnostics → Type 0
AreSelectionsRead parser given read errors = AreSelectionsWhole parser given read errors ⊎ AreSelectionsStopped parser given read errors

-- the set of what was read on the type, judged by what was told and by the faults of the selections
pub record IsBuilt (parser : ParserState) (given : Given) (schema : Schema) (ty : Named)
    (answer : Result FieldSet (Refused (WithErrors FieldSet))) : Type 0 where
  pub read : List Selection
  pub errors : Diagnostics
  pub are_read : AreSelectionsRead parser given read errors
  pub judged : IsJudged (built schema ty read errors.sources) errors.sources (all_faults schema ty read errors) answer

-- out of memory tells nothing
abbrev pub IsFieldSetAnswer : ParserState → Given → Schema → Named → Result FieldSet (Refused (WithErrors FieldSet)) → Type 0
IsFieldSetAnswer parser given schema ty (Ok set) = IsBuilt parser given schema ty (Ok set)
IsFieldSetAnswer parser given schema ty (Err (Fault refusal)) = IsBuilt parser given schema ty (Err (Fault refusal))
IsFieldSetAnswer parser given schema ty (Err Memory) = Unit {0}
