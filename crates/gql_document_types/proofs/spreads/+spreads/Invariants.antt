use Rattle.std.proofs.Common.{◌≡◌, ◌++◌, drop}
use Rattle.gql_document_types.specs.Spreads.{spread_numbers}
use Rattle.gql_document_types.proofs.spreads.+spreads.Given as goal

-- what is there and what is left make the whole
abbrev pub invariant-add_spreads-loop-selection : goal.invariant-add_spreads-loop-selection
invariant-add_spreads-loop-selection l =
    l.numbers ++ spread_numbers l.fragments (drop l.selection-index l.selection-items) ≡ l.fn.numbers ++ spread_numbers l.fragments l.selection-items
