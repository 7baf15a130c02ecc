use Rattle.std.proofs.Common.{◌≡◌, ◌++◌, ◌-◌}
use Rattle.gql_rules_nodes.specs.WayRound.{way_on, way_round}
use Rattle.gql_rules_nodes.proofs.ways.way_round.Given as goal

-- what is told and what is left make the whole
abbrev pub invariant-loop-name : goal.invariant-loop-name
invariant-loop-name l = l.way ++ way_on l.nexts l.start (32 - l._name) l.at ≡ way_round l.nexts l.start
