use Rattle.std.proofs.Common.{◌≡◌, ◌++◌, fold}
use Rattle.gql_rules.specs.bridge.Judged.{row_judged}
use Rattle.gql_rules.specs.bridge.Operations.{with_use}
use Rattle.gql_rules.specs.bridge.Views.{row_of}
use Rattle.gql_rules.proofs.judged.judge_row.Given as goal

-- those that are judged, and those that are left, make the whole
abbrev pub invariant-loop-it : goal.invariant-loop-it
invariant-loop-it l = record {
  judged : row_of l.judged ++ row_judged l.variables.types.now l.variables.definitions.now (row_of l.it-iterator) ≡ row_judged l.variables.types.now l.variables.definitions.now (row_of l.fn.row);
  names : fold with_use l.names (row_of l.it-iterator) ≡ fold with_use l.fn.names (row_of l.fn.row);
}
