use Rattle.gql_graph.specs.bridge.Chains.{is_long}
use Rattle.gql_graph.specs.bridge.Cycles.{Told}
use Rattle.gql_graph.proofs.chains.long_chains.Given as goal

abbrev pub invariant-loop-node : goal.invariant-loop-node
invariant-loop-node l = Told (is_long l.chained l.cyclic) l.long.items l.node
