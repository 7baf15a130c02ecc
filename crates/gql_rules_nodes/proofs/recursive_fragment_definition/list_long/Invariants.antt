use Rattle.std.proofs.Common.{◌≡◌, ◌++◌, drop}
use Rattle.gql_rules_nodes.specs.RecursiveFragmentDefinition.{long_from}
use Rattle.gql_rules_nodes.proofs.recursive_fragment_definition.list_long.Given as goal

-- what is told and what is left make the whole
abbrev pub invariant-loop-fragment : goal.invariant-loop-fragment
invariant-loop-fragment l = record {
  node : l.node ≡ l.fragment-index;
  faults : l.faults ++ long_from l.long l.node (drop l.fragment-index l.fragments) ≡ l.fn.faults ++ long_from l.long 0 l.fragments;
}
