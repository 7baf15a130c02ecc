-- What only private clauses and proofs cite, beside `Parses`.
use Rattle.std.specs.Prelude.{ℕ, List}
use Rattle.gql_grammar.specs.declared.rule.Rule.{Rule}
use Rattle.gql_cst.specs.declared.limits.Limits.{Limits}
use Rattle.gql_cst.specs.declared.limits.Parsed.{Parsed}
use Rattle.gql_cst.specs.Parses.{Admits}

abbrev pub Accepts : Rule → List ℕ → Limits → Parsed → Type 0
Accepts start text limits parsed = Admits start text limits parsed.error
