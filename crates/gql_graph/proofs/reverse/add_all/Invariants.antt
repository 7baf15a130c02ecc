use Rattle.std.proofs.Common.{◌≡◌, drop}
use Rattle.gql_graph.specs.bridge.Reversing.{all_added}
use Rattle.gql_graph.proofs.reverse.add_all.Given as goal

-- what is added and what is left make the whole
abbrev pub invariant-loop-other : goal.invariant-loop-other
invariant-loop-other l = all_added l.made l.node (drop l.other-index l.others) ≡ all_added l.fn.made l.node l.others
