use Rattle.gql_graph.specs.bridge.Chains.{any_marked}
use Rattle.gql_graph.specs.bridge.Cycles.{Told}
use Rattle.gql_graph.specs.Graph.{row}
use Rattle.gql_graph.proofs.chains.marks_through.Given as goal

abbrev pub invariant-loop-node : goal.invariant-loop-node
invariant-loop-node l = Told (λ v. any_marked l.marks (row l.graph v)) l.made.items l.node
