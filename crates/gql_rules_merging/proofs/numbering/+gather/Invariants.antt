use Rattle.std.proofs.Common.{◌≡◌, drop}
use Rattle.gql_rules_merging.specs.bridge.Gathering.{gathered}
use Rattle.gql_rules_merging.specs.Numbering.{with_selections}
use Rattle.gql_rules_merging.proofs.numbering.+gather.Given as goal

-- what is added and what is left make the whole
abbrev pub invariant-gather_selections-loop-selection : goal.invariant-gather_selections-loop-selection
invariant-gather_selections-loop-selection l =
    with_selections l.fragments l.ty (drop l.selection-index l.selection-items) (gathered l.fields l.items)
    ≡ with_selections l.fragments l.ty l.selection-items (gathered l.fn.fields l.fn.items)
