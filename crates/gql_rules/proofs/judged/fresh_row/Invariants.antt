use Rattle.std.proofs.Common.{◌≡◌, ◌++◌}
use Rattle.gql_rules.specs.bridge.Judged.{fresh_row}
use Rattle.gql_rules.specs.bridge.Views.{row_of, uses_of}
use Rattle.gql_rules.proofs.judged.fresh_row.Given as goal

-- those that are there, and those that are left, make the whole
abbrev pub invariant-loop-used : goal.invariant-loop-used
invariant-loop-used l = row_of l.row ++ fresh_row (uses_of l.used-iterator) ≡ fresh_row (uses_of l.fn.uses)
