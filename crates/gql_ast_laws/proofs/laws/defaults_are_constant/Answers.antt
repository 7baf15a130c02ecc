use Rattle.gql_ast_laws.proofs.Documents.{document-constant}
use Rattle.gql_ast_laws.proofs.laws.defaults_are_constant.Goals as goal

pub returns : goal.returns
returns c = document-constant c.sentences_have_one_tree.ensures.nodes
