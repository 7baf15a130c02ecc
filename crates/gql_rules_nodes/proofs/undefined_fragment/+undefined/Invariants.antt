use Rattle.std.proofs.Common.{◌≡◌, ◌++◌, drop}
use Rattle.gql_rules_nodes.specs.UndefinedFragment.{in_selections}
use Rattle.gql_rules_nodes.proofs.undefined_fragment.+undefined.Given as goal

-- what is told and what is left make the whole
abbrev pub invariant-list_in-loop-selection : goal.invariant-list_in-loop-selection
invariant-list_in-loop-selection l =
    l.faults ++ in_selections l.fragments (drop l.selection-index l.selection-items) ≡ l.fn.faults ++ in_selections l.fragments l.selection-items
