use Rattle.std.proofs.Common.{◌≡◌, drop}
use Rattle.gql_rules_merging.specs.bridge.Gathering.{sets_of, no_sets, operation_sets}
use Rattle.gql_rules_merging.specs.Numbering.{with_sets}
use Rattle.gql_rules_merging.proofs.numbering.in_operations.Given as goal

-- what is added and what is left make the whole
abbrev pub invariant-loop-operation : goal.invariant-loop-operation
invariant-loop-operation l =
    with_sets l.fragments (operation_sets (drop l.operation-index l.operations)) (sets_of l.sets l.fields) ≡ with_sets l.fragments (operation_sets l.operations) (no_sets l.fn.fields)
