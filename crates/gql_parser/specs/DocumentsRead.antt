-- What comes of a file that is read as a document.
use Rattle.std.specs.Prelude.{◌≡◌, Result, Ok, Err}
use Rattle.jb_text.specs.declared.refused.Refused.{Refused}
use Rattle.jb_text.specs.declared.refused.Refused.TheVariants.{Fault, Memory}
use Rattle.gql_lexer.specs.declared.error.CstError.{CstError}
use Rattle.gql_grammar.specs.declared.rule.Rule.TheVariants as rule
use Rattle.gql_cst.specs.Forest.{Plain}
use Rattle.gql_cst.specs.Report.{Report}
use Rattle.gql_ast.specs.declared.document.Document.{Document}
use Rattle.gql_ast.specs.Documents.{definitions}
use Rattle.gql_ast_laws.specs.Meant.{IsDocumentOf}
use Rattle.gql_diag.specs.List.{Diagnostics}
use Rattle.gql_diag.specs.declared.with_errors.WithErrors.{WithErrors}
use Rattle.gql_parser.specs.Parsers.{ParserState, Given, its_file}
use Rattle.gql_parser.specs.Readings.{IsWhole, IsStopped}
use Rattle.gql_parser.specs.Diagnosed.{list_of}

-- the document of a tree of the file's text
abbrev pub document_of : Given → Plain → Document
document_of given tree = record { sources = its_file given; definitions = definitions given.text given.file tree }

-- the text is a document, and this is the one that it means
pub record IsDocumentRead (parser : ParserState) (given : Given) (document : Document) : Type 0 where
  pub report : Report
  pub whole : IsWhole parser rule.Document given.text report
  pub sources : document.sources ≡ its_file given
  pub means : IsDocumentOf given.text given.file document.definitions

-- The text is none. The document is that of the tree that was closed where the reading ended, and the one diagnostic
-- tells why it ended.
pub record IsDocumentStopped (parser : ParserState) (given : Given) (document : Document) (errors : Diagnostics) : Type 0 where
  pub report : Report
  pub error : CstError
  pub stopped : IsStopped parser rule.Document given.text report error
  pub partial : document ≡ document_of given report.tree
  pub told : errors ≡ list_of given error

abbrev pub IsDocumentAnswer : ParserState → Given → Result Document (Refused (WithErrors Document)) → Type 0
IsDocumentAnswer parser given (Ok document) = IsDocumentRead parser given document
IsDocumentAnswer parser given (Err (Fault refusal)) = IsDocumentStopped parser given refusal.partial refusal.errors
IsDocumentAnswer parser given (Err Memory) = Unit {0}
