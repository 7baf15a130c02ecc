use Rattle.gql_graph.proofs.Heights.{ranked}
use Rattle.gql_graph.proofs.laws.acyclic_graphs_have_ranks.Goals as goal

pub returns : goal.returns
returns c = ranked
