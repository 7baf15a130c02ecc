use Rattle.std.proofs.Common.{◌≡◌, ◌++◌, List}
use Rattle.gql_diag_messages.specs.declared.diagnostic_data.DiagnosticData.{DiagnosticData}
use Rattle.gql_diag.proofs.taken.push_faults.Given as goal

-- what is taken and what is left make the whole
abbrev pub invariant-loop-fault : goal.invariant-loop-fault
invariant-loop-fault l = record {
  items : l.errors.items ++ l.fault-iterator ≡ l.fn.errors.items ++ l.fn.faults;
  sources : l.errors.sources ≡ l.fn.errors.sources;
  some : (some : List DiagnosticData) × (l.errors.items ≡ l.fn.errors.items ++ some) × (l.fn.faults ≡ some ++ l.fault-iterator);
}
