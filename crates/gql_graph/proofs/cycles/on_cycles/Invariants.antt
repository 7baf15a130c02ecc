use Rattle.gql_graph.specs.bridge.Cycles.{Told, shares_part}
use Rattle.gql_graph.specs.Graph.{row}
use Rattle.gql_graph.proofs.cycles.on_cycles.Given as goal

abbrev pub invariant-loop-node : goal.invariant-loop-node
invariant-loop-node l = Told (λ v. shares_part l.parts.items v (row l.graph v)) l.marks.items l.node
