use Rattle.std.proofs.Common.{◌≡◌, ◌++◌, length}
use Rattle.gql_rules.specs.bridge.Judged.{rows_judged}
use Rattle.gql_rules.specs.bridge.Operations.{rows_noted}
use Rattle.gql_rules.specs.bridge.Views.{rows_of}
use Rattle.gql_rules.proofs.rows.judge_rows.Given as goal

-- those that are judged, and those that are left, make the whole
abbrev pub invariant-loop-row : goal.invariant-loop-row
invariant-loop-row l = record {
  judged : rows_of l.judged ++ rows_judged l.variables.types.now l.variables.definitions.now l.states (length l.judged) (rows_of l.row-iterator)
      ≡ rows_judged l.variables.types.now l.variables.definitions.now l.states 0 (rows_of l.fn.rows);
  names : rows_noted l.states (length l.judged) l.names (rows_of l.row-iterator) ≡ rows_noted l.states 0 l.fn.names (rows_of l.fn.rows);
}
