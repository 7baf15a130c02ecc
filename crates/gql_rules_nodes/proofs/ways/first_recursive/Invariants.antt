use Rattle.std.proofs.Common.{◌≡◌, ◌++◌, drop, map}
use Rattle.std.specs.List.{find}
use Rattle.gql_graph.specs.Chains.{is_marked}
use Rattle.gql_rules_nodes.specs.WayRound.{first_recursive}
use Rattle.gql_rules_nodes.proofs.ways.first_recursive.Given as goal

-- what is there and what is left make the whole
abbrev pub invariant-loop-row : goal.invariant-loop-row
invariant-loop-row l = l.nexts ++ map (find (is_marked l.recursive)) (drop l.row-index l.row-items) ≡ first_recursive l.graph l.recursive
