use Rattle.gql_lexer.proofs.Only.{stands_one}
use Rattle.gql_lexer.proofs.laws.one_thing_stands.Goals as goal

pub returns : goal.returns
returns c = λ at. stands_one at
