use Rattle.std.proofs.Common.{◌≡◌}
use Rattle.gql_graph.specs.bridge.Reversing.{no_edges}
use Rattle.gql_graph.proofs.reverse.no_edges.Given as goal

abbrev pub invariant-loop-node : goal.invariant-loop-node
invariant-loop-node l = l.made ≡ no_edges l._node
