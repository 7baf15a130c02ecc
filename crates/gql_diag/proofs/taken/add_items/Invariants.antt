use Rattle.std.proofs.Common.{◌≡◌, ◌++◌, List}
use Rattle.std.specs.Vec.Iter.{into_iter_items}
use Rattle.gql_diag_messages.specs.declared.diagnostic_data.DiagnosticData.{DiagnosticData}
use Rattle.gql_diag.proofs.taken.add_items.Given as goal

-- what is added and what is left make the whole
abbrev pub invariant-loop-item : goal.invariant-loop-item
invariant-loop-item l = record {
  items : l.faults ++ into_iter_items l.item-iterator ≡ l.fn.faults ++ l.fn.items.items;
  some : (some : List DiagnosticData) × (l.faults ≡ l.fn.faults ++ some) × (l.fn.items.items ≡ some ++ into_iter_items l.item-iterator);
}
