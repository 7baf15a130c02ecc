-- An error's range does not end before it starts.
use Rattle.std.proofs.Common.{ℕ, ◌+◌, ◌≤◌, ◌≡◌, ◌⊎◌, inl, inr, Option, Some, None, arith, List}
use Rattle.std.specs.declared.ops.Range.{Range}
use Rattle.gql_lexer.specs.declared.error.CstError.{CstError}
use Rattle.gql_lexer.specs.declared.error.CstError.TheVariants.{Syntax, RecursionLimit, TokenLimit}
use Rattle.gql_lexer.specs.declared.error.SyntaxFault.{SyntaxFault}
use Rattle.gql_lexer.specs.declared.error.SyntaxFault.TheVariants.{EndOfText, BadCharacter, OpenString, BadEscape, BadNumber, BadToken}
use Rattle.gql_grammar.specs.declared.rule.Rule.{Rule}
use Rattle.gql_cst.specs.declared.limits.Limits.{Limits}
use Rattle.gql_cst.specs.Outcome.{Reached, EndAt, WordAt, Faults, StopsBy, Stops}
use Rattle.gql_cst.specs.Parses.{IsReport}
use Rattle.gql_cst.specs.Report.{Report}
use Rattle.gql_parser.specs.Diagnosed.{range_of}
use Rattle.gql_parser.specs.bridge.Diagnosed.{IsOrdered}

at_end : (r : Reached) (range : Range ℕ) → EndAt r range → range.start ≤ range.end
at_end r range h = omega (arith, h.1, h.2)

at_word : (r : Reached) (range : Range ℕ) → WordAt r range → range.start ≤ range.end
at_word r range h = omega (arith, h.further)

at_fault : (fault : SyntaxFault) (r : Reached) (range : Range ℕ) → Faults fault r range → range.start ≤ range.end
at_fault EndOfText r range h = at_end r range h.0
at_fault BadToken r range h = at_word r range h.0
at_fault BadCharacter r range h = h.ordered
at_fault OpenString r range h = h.ordered
at_fault BadEscape r range h = h.ordered
at_fault BadNumber r range h = h.ordered

at_limit : (r : Reached) (range : Range ℕ) (before behind : Type 0) → (EndAt r range × before) ⊎ (WordAt r range × behind) → range.start ≤ range.end
at_limit r range before behind (inl h) = at_end r range h.0
at_limit r range before behind (inr h) = at_word r range h.0

stopped : (limits : Limits) (r : Reached) (error : CstError) → StopsBy limits r error → (range_of error).start ≤ (range_of error).end
stopped limits r (Syntax fault range) h = at_fault fault r range h.0
stopped limits r (RecursionLimit range) h = at_limit r range (r.read ≡ r.tokens) (r.read ≡ r.tokens + 1) h.0
stopped limits r (TokenLimit range) h = omega (arith, h.0.1.further)

told : (limits : Limits) (r : Reached) (error : Option CstError) → Stops limits r error → IsOrdered error
told limits r None h = tt
told limits r (Some error) h = stopped limits r error h

pub ordered : (start : Rule) (text : List ℕ) (limits : Limits) (report : Report) → IsReport start text limits report → IsOrdered report.error
ordered start text limits report h = told limits _ report.error h.2.stops
