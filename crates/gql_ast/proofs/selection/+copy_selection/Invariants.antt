use Rattle.std.proofs.Common.{◌≡◌, take}
use Rattle.gql_ast.proofs.selection.+copy_selection.Given as goal

abbrev pub invariant-copy_selections-loop-selection : goal.invariant-copy_selections-loop-selection
invariant-copy_selections-loop-selection l = l.copies ≡ take l.selection-index l.selections
