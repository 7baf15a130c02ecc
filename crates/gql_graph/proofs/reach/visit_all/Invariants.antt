use Rattle.std.proofs.Common.{◌≡◌, drop}
use Rattle.gql_graph.specs.bridge.Flooding.{all_marked, all_queued}
use Rattle.gql_graph.proofs.reach.visit_all.Given as goal

-- what is visited and what is left make the whole
abbrev pub invariant-loop-node : goal.invariant-loop-node
invariant-loop-node l = record {
  states : all_marked l.from l.to l.states (drop l.node-index l.nodes) ≡ all_marked l.from l.to l.fn.states l.nodes;
  queue : all_queued l.from l.to l.states l.queue.items (drop l.node-index l.nodes) ≡ all_queued l.from l.to l.fn.states l.fn.queue.items l.nodes;
}
