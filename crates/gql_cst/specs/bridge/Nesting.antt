-- What only private clauses and proofs cite, beside `Nesting`.
use Rattle.std.specs.Prelude.{ℕ, List}
use Rattle.gql_cst.specs.Forest.{Plain, row_of}
use Rattle.gql_cst.specs.Nesting.{nesting}

abbrev pub nesting_of : List Plain → ℕ
nesting_of trees = nesting (row_of trees)
