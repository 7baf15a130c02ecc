use Rattle.std.proofs.Common.{◌≡◌}
use Rattle.gql_source.specs.Lines as lines
use Rattle.gql_source.proofs.line_cursor.moved.Given as goal

abbrev pub invariant-loop-at : goal.invariant-loop-at
invariant-loop-at l = l.reached ≡ lines.line_column l.text l.at
