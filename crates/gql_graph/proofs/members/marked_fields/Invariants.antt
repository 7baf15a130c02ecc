use Rattle.std.proofs.Common.{◌≡◌, ◌++◌, drop}
use Rattle.gql_graph.specs.bridge.Steps.{fields_at}
use Rattle.gql_graph.proofs.members.marked_fields.Given as goal

-- what is found and what is left make the whole
abbrev pub invariant-loop-node : goal.invariant-loop-node
invariant-loop-node l = l.fields.items ++ fields_at l.base l.states (drop l.node-index l.nodes) ≡ fields_at l.base l.states l.nodes
