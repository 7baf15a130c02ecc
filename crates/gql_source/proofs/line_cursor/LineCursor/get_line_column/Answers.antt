use Rattle.std.proofs.Common.{sym}
use Rattle.gql_source.proofs.LineSteps.{line_column-start}
use Rattle.gql_source.proofs.line_cursor.LineCursor.get_line_column.Goals as goal

pub moved-place-requires-else-self-offset-clause-place : goal.moved-place-requires-else-self-offset-clause-place
moved-place-requires-else-self-offset-clause-place c = sym (line_column-start c.as_bytes-text.result.now)
