use Rattle.std.proofs.Common.{◌≡◌, ◌++◌, drop}
use Rattle.std.specs.List.{flat_map}
use Rattle.gql_document_types.specs.Spreads.{spread_numbers}
use Rattle.gql_rules_nodes.specs.UnusedFragment.{operation_spreads}
use Rattle.gql_rules_nodes.proofs.unused_fragment.operation_spreads.Given as goal

-- what is there and what is left make the whole
abbrev pub invariant-loop-operation : goal.invariant-loop-operation
invariant-loop-operation l =
    l.numbers ++ flat_map (λ operation. spread_numbers l.document.fragments operation.selection_set.selections) (drop l.operation-index l.operation-items) ≡ operation_spreads l.document
