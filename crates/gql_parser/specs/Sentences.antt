-- Texts of schemas and of documents as sentences of the grammar: appendix B of GraphQL October 2021.
use Rattle.std.specs.Prelude.{◌≡◌, ℕ, List, Some}
use Rattle.gql_cst.specs.Parses.{IsReport}
use Rattle.gql_cst.specs.Report.{Report}
use Rattle.gql_grammar.specs.declared.rule.Rule.TheVariants.{Document}
use Rattle.gql_lexer.specs.declared.error.CstError.{CstError}
use Rattle.gql_parser.specs.Parsers.{fresh}
use Rattle.gql_parser.specs.Readings.{IsSentenceWithin}

-- a sentence of the grammar, in which selection sets, values and types are nested at most 500 deep
abbrev pub IsSentence : List ℕ → Type 0
IsSentence text = IsSentenceWithin fresh.limits Document text

-- the text is no sentence, and reading it ends by this error
pub record StopsAt (text : List ℕ) (error : CstError) : Type 0 where
  pub none : IsSentence text → ⊥
  pub report : Report
  pub parse : IsReport Document text fresh.limits report
  pub stands : report.error ≡ Some error
