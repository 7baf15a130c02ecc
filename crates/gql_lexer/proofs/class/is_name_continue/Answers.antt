use Rattle.gql_lexer.proofs.NameTable.{name_table}
use Rattle.gql_lexer.proofs.class.is_name_continue.Goals as goal

pub returns : goal.returns
returns c = rw c.from.ensures (name_table c.args.b c.ranges.b.fits)
