use Rattle.std.proofs.Common.{◌≡◌, ◌++◌, ◌+◌, ◌≤◌}
use Rattle.gql_document.specs.bridge.Made.{list}
use Rattle.gql_document.proofs.Sizes.{total, inside_field, inside_inline, size}
use Rattle.gql_document.proofs.built_selections.Make.+make.Given as goal

-- what is made and what is left make the whole, and what is left is no larger
abbrev pub invariant-list-loop-selection : goal.invariant-list-loop-selection
invariant-list-loop-selection l = record {
  made : l.made ++ list l.self.schema.now l.ty l.selection-iterator ≡ list l.self.schema.now l.ty l.fn.selections;
  fewer : total l.selection-iterator ≤ total l.fn.selections;
}

abbrev pub decreases-list : goal.decreases-list
decreases-list l = 1 + total l.selections

abbrev pub decreases-add : goal.decreases-add
decreases-add l = size l.selection

abbrev pub decreases-add_field : goal.decreases-add_field
decreases-add_field l = 3 + inside_field l.field

abbrev pub decreases-add_defined : goal.decreases-add_defined
decreases-add_defined l = 2 + inside_field l.field

abbrev pub decreases-add_inline : goal.decreases-add_inline
decreases-add_inline l = 3 + inside_inline l.fragment
