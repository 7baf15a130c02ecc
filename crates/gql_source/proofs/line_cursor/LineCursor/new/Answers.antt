use Rattle.std.proofs.Common.{sym, arith}
use Rattle.gql_source.proofs.LineSteps.{line_column-start}
use Rattle.gql_source.proofs.line_cursor.LineCursor.new.Goals as goal

pub invariant_of-result : goal.invariant_of-result
invariant_of-result c = (omega arith, sym (line_column-start c.args.text.now))
