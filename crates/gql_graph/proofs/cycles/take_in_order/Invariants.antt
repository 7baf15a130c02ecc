use Rattle.gql_graph.specs.bridge.Cycles.{IsPartitioned}
use Rattle.gql_graph.proofs.cycles.take_in_order.Given as goal

abbrev pub invariant-loop-index : goal.invariant-loop-index
invariant-loop-index l = IsPartitioned l.graph l.parts
