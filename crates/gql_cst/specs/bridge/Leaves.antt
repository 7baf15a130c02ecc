-- What only private clauses and proofs cite, beside `Leaves`.
use Rattle.std.specs.Prelude.{List}
use Rattle.gql_cst.specs.Forest.{Plain, row_of}
use Rattle.gql_cst.specs.Leaves.{Leaf, leaves}

abbrev pub leaves_of : List Plain → List Leaf
leaves_of trees = leaves (row_of trees)
