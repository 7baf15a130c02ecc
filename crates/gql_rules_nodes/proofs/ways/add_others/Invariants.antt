use Rattle.std.proofs.Common.{◌≡◌, ◌++◌, drop, string_bytes}
use Rattle.std.specs.List.{flat_map}
use Rattle.gql_rules_nodes.specs.WayRound.{another}
use Rattle.gql_rules_nodes.proofs.ways.add_others.Given as goal

-- what is written and what is left make the whole
abbrev pub invariant-loop-node : goal.invariant-loop-node
invariant-loop-node l = string_bytes l.text ++ flat_map (another l.fragments) (drop l.node-index l.nodes) ≡ string_bytes l.fn.text ++ flat_map (another l.fragments) l.nodes
