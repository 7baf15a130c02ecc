use Rattle.gql_lexer.specs.Class.{is_within_line}
use Rattle.gql_lexer.proofs.BlockLines.{lines-split}
use Rattle.gql_lexer.proofs.Cuts.{line_end-ascii, run-ascii}
use Rattle.gql_lexer.proofs.line.split_line.Goals as goal

pub returns-clause-lines : goal.returns-clause-lines
returns-clause-lines c = rw (c.split_run.ensures.front, c.split_run.ensures.rest) (lines-split c.args.s.now)

pub returns-clause-ascii : goal.returns-clause-ascii
returns-clause-ascii c = rw c.split_run.ensures.rest (run-ascii is_within_line c.args.s.now line_end-ascii)
