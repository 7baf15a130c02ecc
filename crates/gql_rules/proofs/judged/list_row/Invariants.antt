use Rattle.std.proofs.Common.{◌≡◌, ◌++◌, drop}
use Rattle.gql_rules.specs.bridge.Judged.{row_told}
use Rattle.gql_rules.specs.bridge.Views.{row_of}
use Rattle.gql_rules.proofs.judged.list_row.Given as goal

-- what is told and what is left make the whole
abbrev pub invariant-loop-it : goal.invariant-loop-it
invariant-loop-it l = l.faults ++ row_told (row_of (drop l.it-index l.row)) ≡ l.fn.faults ++ row_told (row_of l.row)
