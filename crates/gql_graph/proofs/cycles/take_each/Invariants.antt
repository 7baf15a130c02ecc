use Rattle.std.proofs.Common.{ℕ, ◌<◌}
use Rattle.gql_graph.specs.bridge.Cycles.{IsPartitioned, HasPart}
use Rattle.gql_graph.proofs.cycles.take_each.Given as goal

-- the nodes before this one have their parts
abbrev pub invariant-loop-node : goal.invariant-loop-node
invariant-loop-node l = record { parts : IsPartitioned l.graph l.parts; all : (v : ℕ) → v < l.node → HasPart l.parts v }
