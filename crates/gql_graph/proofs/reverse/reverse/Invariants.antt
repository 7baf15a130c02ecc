use Rattle.gql_graph.proofs.Turned.{Turning}
use Rattle.gql_graph.proofs.reverse.reverse.Given as goal

-- the edges of the nodes before this one are turned round
abbrev pub invariant-loop-node : goal.invariant-loop-node
invariant-loop-node l = Turning l.graph l.made l.node
