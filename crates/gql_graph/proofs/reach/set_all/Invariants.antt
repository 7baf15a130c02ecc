use Rattle.std.proofs.Common.{◌≡◌, drop}
use Rattle.gql_graph.specs.bridge.Flooding.{all_marked}
use Rattle.gql_graph.proofs.reach.set_all.Given as goal

-- what is marked and what is left make the whole
abbrev pub invariant-loop-node : goal.invariant-loop-node
invariant-loop-node l = all_marked l.from l.to l.states (drop l.node-index l.nodes) ≡ all_marked l.from l.to l.fn.states l.nodes
