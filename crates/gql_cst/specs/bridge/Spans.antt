-- What only private clauses and proofs cite, beside `Spans`.
use Rattle.std.specs.Prelude.{[], ◌∷◌}
use Rattle.gql_cst.specs.declared.limits.Parsed.{Parsed}
use Rattle.gql_cst.specs.Forest.{plain}
use Rattle.gql_cst.specs.Spans.{AllSpanIn}

-- so does the tree of a parse
abbrev pub IsSpanned : Parsed → Type 0
IsSpanned parsed = AllSpanIn (plain parsed.tree ∷ [])
