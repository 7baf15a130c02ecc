-- The trees of a whole text.
use Rattle.std.specs.Prelude.{ℕ, List, length}
use Rattle.gql_grammar.specs.declared.rule.Rule.{Rule}
use Rattle.gql_grammar.specs.Reads.{Sentence}
use Rattle.gql_grammar.specs.Row as row
use Rattle.gql_cst.specs.Forest.{Forest}
use Rattle.gql_cst.specs.Leaves.{leaves, Tiles}
use Rattle.gql_cst.specs.Sentences.{root_kind, words, shown}

-- The trees have the tokens of the text, from its beginning to its end, and these are a sentence of the start whose tree
-- has the same nodes.
pub record IsTreeOf (start : Rule) (text : List ℕ) (children : Forest) : Type 0 where
  pub tiles : Tiles text 0 (leaves children) (length text)
  pub sentence : Sentence start (words text (leaves children)) (row.node (root_kind start) (shown text children) row.nothing)
