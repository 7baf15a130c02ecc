-- What a builder takes of a file that is read as a document.
use Rattle.std.specs.Prelude.{◌≡◌, ◌⊎◌, []}
use Rattle.gql_lexer.specs.declared.error.CstError.{CstError}
use Rattle.gql_grammar.specs.declared.rule.Rule.TheVariants as rule
use Rattle.gql_cst.specs.Report.{Report}
use Rattle.gql_ast.specs.declared.document.Document.{Document}
use Rattle.gql_diag.specs.List.{Diagnostics}
use Rattle.gql_parser.specs.Parsers.{ParserState, Given}
use Rattle.gql_parser.specs.Readings.{IsStopped}
use Rattle.gql_parser.specs.Diagnosed.{list_of}
use Rattle.gql_parser.specs.DocumentsRead.{IsDocumentRead}

abbrev pub no_document : Document
no_document = record { sources = []; definitions = [] }

abbrev pub no_faults : Diagnostics
no_faults = record { sources = []; items = [] }

-- the text is this document, and nothing is told
pub record IsFileWhole (parser : ParserState) (given : Given) (document : Document) (errors : Diagnostics) : Type 0 where
  pub read : IsDocumentRead parser given document
  pub told : errors ≡ no_faults

-- the text is no document: there is no definition, and the one diagnostic, with the file, tells why
pub record IsFileStopped (parser : ParserState) (given : Given) (document : Document) (errors : Diagnostics) : Type 0 where
  pub report : Report
  pub error : CstError
  pub stopped : IsStopped parser rule.Document given.text report error
  pub none : document ≡ no_document
  pub told : errors ≡ list_of given error

abbrev pub IsFileRead : ParserState → Given → Document → Diagnostics → Type 0
IsFileRead parser given document errors = IsFileWhole parser given document errors ⊎ IsFileStopped parser given document errors
