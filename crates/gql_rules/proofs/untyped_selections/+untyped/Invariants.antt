use Rattle.std.proofs.Common.{◌≡◌, ◌++◌, ◌+◌, ◌≤◌, map}
use Rattle.gql_document.proofs.Sizes.{total, inside_field, inside_inline, size}
use Rattle.gql_rules.proofs.untyped_selections.+untyped.Given as goal
use Rattle.gql_rules.specs.UntypedSelections.{untyped_selection}

-- what is made and what is left make the whole, and what is left is no larger
abbrev pub invariant-untyped_selections-loop-selection : goal.invariant-untyped_selections-loop-selection
invariant-untyped_selections-loop-selection l = record {
  made : l.made ++ map untyped_selection l.selection-iterator ≡ map untyped_selection l.fn.selections;
  fewer : total l.selection-iterator ≤ total l.fn.selections;
}

abbrev pub decreases-untyped_set : goal.decreases-untyped_set
decreases-untyped_set l = 2 + total l.selections

abbrev pub decreases-untyped_selections : goal.decreases-untyped_selections
decreases-untyped_selections l = 1 + total l.selections

abbrev pub decreases-untyped_selection : goal.decreases-untyped_selection
decreases-untyped_selection l = size l.selection

abbrev pub decreases-untyped_field : goal.decreases-untyped_field
decreases-untyped_field l = 3 + inside_field l.field

abbrev pub decreases-untyped_inline : goal.decreases-untyped_inline
decreases-untyped_inline l = 3 + inside_inline l.fragment
