-- What only private clauses and proofs cite, beside `DocumentsRead`.
use Rattle.std.specs.Prelude.{◌≡◌, Option, Some, None, Result, Ok, Err}
use Rattle.jb_text.specs.declared.refused.Refused.{Refused}
use Rattle.jb_text.specs.declared.refused.Refused.TheVariants.{Fault, Memory}
use Rattle.gql_lexer.specs.declared.error.CstError.{CstError}
use Rattle.gql_grammar.specs.declared.rule.Rule.TheVariants as rule
use Rattle.gql_cst.specs.Report.{Report}
use Rattle.gql_ast.specs.declared.document.Document.{Document}
use Rattle.gql_diag.specs.declared.with_errors.WithErrors.{WithErrors}
use Rattle.gql_parser.specs.Parsers.{ParserState, Given}
use Rattle.gql_parser.specs.bridge.Readings.{IsJudged}
use Rattle.gql_parser.specs.Diagnosed.{list_of}
use Rattle.gql_parser.specs.DocumentsRead.{document_of}

-- ---- the same of a document that is there

-- the document of the tree that was closed where the reading ended, and what ended it before the text's end
pub record IsReadTo (parser : ParserState) (given : Given) (document : Document) (error : Option CstError) : Type 0 where
  pub report : Report
  pub judged : IsJudged parser rule.Document given.text report
  pub ended : report.error ≡ error
  pub partial : document ≡ document_of given report.tree

-- that document, with the one diagnostic beside it if there is an error
abbrev pub IsAnswerOf : Given → Document → Option CstError → Result Document (Refused (WithErrors Document)) → Type 0
IsAnswerOf given document error (Ok answer) = (error ≡ None) × (answer ≡ document)
IsAnswerOf given document error (Err (Fault refusal)) =
    (found : CstError) × (error ≡ Some found) × (refusal.partial ≡ document) × (refusal.errors ≡ list_of given found)
IsAnswerOf given document error (Err Memory) = Unit {0}
