use Rattle.gql_cst.proofs.Filled.{tree_ends, tree_same}
use Rattle.gql_cst.proofs.laws.texts_have_one_tree.Goals as goal

pub returns : goal.returns
returns c = record {
  tree = λ start text one other h k. tree_same c.tokens_are_one.ensures c.sentences_have_one_tree.ensures.tree c.sentences_have_one_tree.ensures.words start text one other h k;
  ends = λ start text one h. tree_ends c.sentences_have_one_tree.ensures.words start text one h;
}
