use Rattle.std.proofs.Common.{◌≡◌, ◌++◌, drop}
use Rattle.gql_rules_nodes.specs.RecursiveFragmentDefinition.{recursive_from}
use Rattle.gql_rules_nodes.proofs.recursive_fragment_definition.list_recursive.Given as goal

-- what is told and what is left make the whole
abbrev pub invariant-loop-fragment : goal.invariant-loop-fragment
invariant-loop-fragment l = record {
  node : l.node ≡ l.fragment-index;
  faults : l.faults ++ recursive_from l.fragments l.recursive l.nexts l.node (drop l.fragment-index l.fragment-items)
      ≡ l.fn.faults ++ recursive_from l.fragments l.recursive l.nexts 0 l.fragments;
}
