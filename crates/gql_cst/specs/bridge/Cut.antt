-- What only private clauses and proofs cite, beside `Cut`.
use Rattle.std.specs.Prelude.{ℕ, List}
use Rattle.gql_grammar.specs.declared.rule.Rule.{Rule}
use Rattle.gql_cst.specs.declared.limits.Parsed.{Parsed}
use Rattle.gql_cst.specs.Forest.{plain}
use Rattle.gql_cst.specs.Cut.{IsCutIn}

-- so are the trees of a parse, whatever ended it
abbrev pub IsCutTree : Rule → List ℕ → Parsed → Type 0
IsCutTree start text parsed = IsCutIn start text (plain parsed.tree)
