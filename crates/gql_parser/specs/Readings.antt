-- The reading of a text by the grammar of GraphQL October 2021, appendix B, within the limits of a parser.
use Rattle.std.specs.Prelude.{◌≡◌, ◌≤◌, ◌⊎◌, ℕ, List, length, Some, None}
use Rattle.gql_lexer.specs.declared.error.CstError.{CstError}
use Rattle.gql_grammar.specs.declared.rule.Rule.{Rule}
use Rattle.gql_cst.specs.declared.limits.Limits.{Limits}
use Rattle.gql_cst.specs.Forest.{Forest}
use Rattle.gql_cst.specs.Leaves.{leaves}
use Rattle.gql_cst.specs.Nesting.{nesting}
use Rattle.gql_cst.specs.Outcome.{IsWithin}
use Rattle.gql_cst.specs.Parses.{Reports}
use Rattle.gql_cst.specs.Report.{Report}
use Rattle.gql_cst.specs.TreeOf.{IsTreeOf}
use Rattle.gql_parser.specs.Parsers.{ParserState}

-- the text is a sentence of the start, and neither its levels nor its tokens pass their limits
pub record IsSentenceWithin (limits : Limits) (start : Rule) (text : List ℕ) : Type 0 where
  pub children : Forest
  pub tree : IsTreeOf start text children
  pub nested : nesting children ≤ limits.recursion
  pub counted : IsWithin limits.tokens (length (leaves children))

-- The text was read from the start, and the parser tells how far. The report has the tree of what was read, which no
-- program need hold: that of a sentence, or of one that begins so, cut behind the words that were read.
pub record IsReading (parser : ParserState) (start : Rule) (text : List ℕ) (report : Report) : Type 0 where
  pub reports : Reports start text parser.limits report
  pub recursion_reached : parser.recursion_reached ≡ report.recursion_reached
  pub tokens_reached : parser.tokens_reached ≡ report.tokens_reached

-- it was read to its end, and is a sentence within the limits
pub record IsWhole (parser : ParserState) (start : Rule) (text : List ℕ) (report : Report) : Type 0 where
  pub reading : IsReading parser start text report
  pub no_error : report.error ≡ None
  pub sentence : IsSentenceWithin parser.limits start text

-- the reading ended by the error, and the text is no sentence within the limits
pub record IsStopped (parser : ParserState) (start : Rule) (text : List ℕ) (report : Report) (error : CstError) : Type 0 where
  pub reading : IsReading parser start text report
  pub stands : report.error ≡ Some error
  pub none : IsSentenceWithin parser.limits start text → ⊥

-- What a call leaves of a parser: its limits, and the counts of before, or those that tell how far the text was read.
pub record IsLeft (old new : ParserState) (start : Rule) (text : List ℕ) : Type 0 where
  pub limits : new.limits ≡ old.limits
  pub counts : (new ≡ old) ⊎ ((report : Report) × IsReading new start text report)
