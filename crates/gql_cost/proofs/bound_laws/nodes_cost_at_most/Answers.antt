use Rattle.gql_document_types.specs.Spreads.{spread_graph}
use Rattle.gql_cost.proofs.Costs.{nodes-cost}
use Rattle.gql_cost.proofs.bound_laws.nodes_cost_at_most.Goals as goal

pub returns : goal.returns
returns types c items r root initial selections response acyclic even short executed count has =
    let ranked = c.acyclic_graphs_have_ranks.ensures (spread_graph r.fragments) acyclic in
    nodes-cost items r root initial selections ranked.0 ranked.1 even short response executed count has
