use Rattle.gql_parser.proofs.Documents.{select}
use Rattle.gql_parser.proofs.laws.operations_select_something.Goals as goal

pub returns : goal.returns
returns c = select c.sentences_have_one_tree.ensures.nodes
