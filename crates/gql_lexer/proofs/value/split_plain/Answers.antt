use Rattle.gql_lexer.proofs.Values.{plain-stops}
use Rattle.gql_lexer.proofs.value.split_plain.Goals as goal

pub returns-clause-stops : goal.returns-clause-stops
returns-clause-stops c = rw c.split_run.ensures.rest (plain-stops c.args.s.now)
