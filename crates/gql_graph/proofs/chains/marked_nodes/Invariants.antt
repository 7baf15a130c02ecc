use Rattle.gql_graph.specs.bridge.Chains.{AreMarkedNodes}
use Rattle.gql_graph.proofs.chains.marked_nodes.Given as goal

abbrev pub invariant-loop-node : goal.invariant-loop-node
invariant-loop-node l = AreMarkedNodes l.marks l.nodes.items l.node
