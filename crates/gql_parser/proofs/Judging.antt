-- A reading to the end has read a sentence within the limits, and one that stopped has not.
use Rattle.std.proofs.Common.{◌≡◌, ◌≤◌, ℕ, List, Option, Some, None, MatchOption, refl, subst, arith}
use Rattle.gql_lexer.specs.declared.error.CstError.{CstError}
use Rattle.gql_grammar.specs.declared.rule.Rule.{Rule}
use Rattle.gql_grammar.specs.Row as row
use Rattle.gql_cst.specs.declared.limits.Limits.{Limits}
use Rattle.gql_cst.specs.Forest.{Forest}
use Rattle.gql_cst.specs.Leaves.{leaves}
use Rattle.gql_cst.specs.Levels.{levels, NestsTo}
use Rattle.gql_cst.specs.Nesting.{nesting}
use Rattle.gql_cst.specs.Outcome.{IsWithin, Stops}
use Rattle.gql_cst.specs.Parses.{IsReport, Admits, reached_at}
use Rattle.gql_cst.specs.Report.{Report}
use Rattle.gql_cst.specs.Sentences.{root_kind, shown}
use Rattle.gql_cst.specs.TreeOf.{IsTreeOf}
use Rattle.gql_cst.proofs.Parsing.{parse_tree}
use Rattle.gql_parser.specs.Parsers.{ParserState}
use Rattle.gql_parser.specs.Readings.{IsSentenceWithin, IsReading, IsWhole, IsStopped}
use Rattle.gql_parser.specs.bridge.Readings.{IsJudged}
use Rattle.gql_parser.proofs.Shallow.{shown-shallow}

sentence : (start : Rule) (text : List ℕ) (limits : Limits) (report : Report) → IsReport start text limits report → report.error ≡ None → IsSentenceWithin limits start text
sentence start text limits report parse is =
    let children = parse.1 in
    let ends = subst (λ (e : Option CstError). Stops limits (reached_at text children parse.0 report) e) is parse.2.stops in
    let nests = subst (λ (e : Option CstError). NestsTo limits.recursion (levels (shown text children)) e) is parse.2.nests in
    record {
      children = children;
      tree = subst (λ (f : Forest). IsTreeOf start text f) parse.2.tree_children (parse_tree start text limits report parse is);
      nested = omega (arith, nests, parse.2.levels_reached, parse.2.recursion_reached);
      counted = subst (λ (n : ℕ). IsWithin limits.tokens n) ends.1 ends.2;
    }

rooted : (start : Rule) (text : List ℕ) (f : Forest) (limit : ℕ) → row.level (root_kind start) ≡ 0 → nesting f ≤ limit → row.nesting (row.node (root_kind start) (shown text f) row.nothing) ≤ limit
rooted start text f limit flat h = omega (arith, flat, h, shown-shallow text f)

no_sentence : (start : Rule) (text : List ℕ) (limits : Limits) (report : Report) (error : CstError) → row.level (root_kind start) ≡ 0
    → Admits start text limits report.error → report.error ≡ Some error → IsSentenceWithin limits start text → ⊥
no_sentence start text limits report error flat accepts is s =
    let none : report.error ≡ None =
    accepts (leaves s.children) (row.node (root_kind start) (shown text s.children) row.nothing) s.tree.tiles s.tree.sentence (rooted start text s.children limits.recursion flat s.nested) s.counted in
    cc (none, is)

by_error : (parser : ParserState) (start : Rule) (text : List ℕ) (report : Report) → row.level (root_kind start) ≡ 0 → IsReading parser start text report
    → Admits start text parser.limits report.error → (error : Option CstError) → report.error ≡ error
    → MatchOption error (IsWhole parser start text report) (λ e. IsStopped parser start text report e)
by_error parser start text report flat reading accepts None is =
    record { reading = reading; no_error = is; sentence = sentence start text parser.limits report reading.reports.parse is }
by_error parser start text report flat reading accepts (Some error) is =
    record { reading = reading; stands = is; none = no_sentence start text parser.limits report error flat accepts is }

pub judged : (parser : ParserState) (start : Rule) (text : List ℕ) (report : Report) → row.level (root_kind start) ≡ 0 → IsReading parser start text report
    → Admits start text parser.limits report.error → IsJudged parser start text report
judged parser start text report flat reading accepts = by_error parser start text report flat reading accepts report.error refl
