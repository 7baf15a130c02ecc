use Rattle.std.proofs.Common.{◌≡◌, ◌++◌, drop}
use Rattle.gql_rules_nodes.specs.UnusedFragment.{unreached_from}
use Rattle.gql_rules_nodes.proofs.unused_fragment.list_unreached.Given as goal

-- what is told and what is left make the whole
abbrev pub invariant-loop-fragment : goal.invariant-loop-fragment
invariant-loop-fragment l = record {
  node : l.node ≡ l.fragment-index;
  faults : l.faults ++ unreached_from l.states l.node (drop l.fragment-index l.fragments) ≡ l.fn.faults ++ unreached_from l.states 0 l.fragments;
}
