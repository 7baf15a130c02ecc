use Rattle.std.proofs.Common.{◌≡◌, ◌++◌}
use Rattle.gql_diag.proofs.diagnostic_list.listed.Given as goal

-- what is listed and what is left make the whole
abbrev pub invariant-loop-fault : goal.invariant-loop-fault
invariant-loop-fault l = record {
  items : l.list.items ++ l.fault-iterator ≡ l.fn.faults;
  sources : l.list.sources ≡ l.sources;
}
