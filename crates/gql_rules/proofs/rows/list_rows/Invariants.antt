use Rattle.std.proofs.Common.{◌≡◌, ◌++◌, drop}
use Rattle.gql_rules.specs.bridge.Operations.{rows_told}
use Rattle.gql_rules.specs.bridge.Views.{rows_of}
use Rattle.gql_rules.proofs.rows.list_rows.Given as goal

-- what is told and what is left make the whole
abbrev pub invariant-loop-row : goal.invariant-loop-row
invariant-loop-row l = l.faults ++ rows_told (rows_of (drop l.row-index l.rows)) ≡ l.fn.faults ++ rows_told (rows_of l.rows)
