-- What only private clauses and proofs cite, beside `Readings`.
use Rattle.std.specs.Prelude.{ℕ, List, MatchOption}
use Rattle.gql_grammar.specs.declared.rule.Rule.{Rule}
use Rattle.gql_cst.specs.Report.{Report}
use Rattle.gql_parser.specs.Parsers.{ParserState}
use Rattle.gql_parser.specs.Readings.{IsWhole, IsStopped}

-- each reading is one of the two
abbrev pub IsJudged : ParserState → Rule → List ℕ → Report → Type 0
IsJudged parser start text report =
    MatchOption report.error (IsWhole parser start text report) (λ error. IsStopped parser start text report error)
