use Rattle.std.proofs.Common.{◌≡◌, drop}
use Rattle.std.specs.List.{find}
use Rattle.gql_graph.specs.Chains.{is_marked}
use Rattle.gql_rules_nodes.proofs.ways.first_marked.Given as goal

-- none before is marked
abbrev pub invariant-loop-node : goal.invariant-loop-node
invariant-loop-node l = find (is_marked l.marks) (drop l.node-index l.nodes) ≡ find (is_marked l.marks) l.nodes
