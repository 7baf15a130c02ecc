use Rattle.gql_graph.specs.bridge.Chains.{any_next}
use Rattle.gql_graph.specs.bridge.Cycles.{Told}
use Rattle.gql_graph.specs.Graph.{row}
use Rattle.gql_graph.proofs.chains.next_marks.Given as goal

abbrev pub invariant-loop-node : goal.invariant-loop-node
invariant-loop-node l = Told (λ v. any_next l.named l.marks l.through.items (row l.graph v)) l.made.items l.node
