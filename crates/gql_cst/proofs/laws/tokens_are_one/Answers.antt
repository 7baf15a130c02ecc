use Rattle.gql_cst.proofs.Tokens.{tiles_same}
use Rattle.gql_cst.proofs.laws.tokens_are_one.Goals as goal

pub returns : goal.returns
returns c = λ text from to one other t u. tiles_same c.one_thing_stands.ensures text from to one other t u
