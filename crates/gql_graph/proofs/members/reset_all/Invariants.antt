use Rattle.std.proofs.Common.{◌≡◌, drop}
use Rattle.gql_graph.specs.bridge.Steps.{all_reset}
use Rattle.gql_graph.proofs.members.reset_all.Given as goal

-- what is reset and what is left make the whole
abbrev pub invariant-loop-node : goal.invariant-loop-node
invariant-loop-node l = all_reset l.states (drop l.node-index l.nodes) ≡ all_reset l.fn.states l.nodes
