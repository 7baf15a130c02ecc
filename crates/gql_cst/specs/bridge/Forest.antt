-- What only private clauses and proofs cite, beside `Forest`.
use Rattle.std.specs.Prelude.{List, map}
use Rattle.gql_cst.specs.declared.tree.Tree.{Tree}
use Rattle.gql_cst.specs.Forest.{Forest, row_of, plain}

-- a row of trees
abbrev pub forest : List Tree → Forest
forest trees = row_of (map plain trees)
