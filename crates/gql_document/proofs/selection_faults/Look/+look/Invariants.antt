use Rattle.std.proofs.Common.{◌≡◌, ◌++◌, drop}
use Rattle.gql_document.specs.SelectionFaults.{selection_faults}
use Rattle.gql_document.proofs.selection_faults.Look.+look.Given as goal

-- what is there and what is left make the whole
abbrev pub invariant-list_all-loop-selection : goal.invariant-list_all-loop-selection
invariant-list_all-loop-selection l = l.faults ++ selection_faults l.self.schema.now l.ty (drop l.selection-index l.selection-items) ≡ l.fn.faults ++ selection_faults l.self.schema.now l.ty l.selection-items
