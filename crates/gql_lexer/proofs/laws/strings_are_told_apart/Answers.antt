use Rattle.gql_lexer.proofs.Blocks.{block_told, line_told}
use Rattle.gql_lexer.proofs.laws.strings_are_told_apart.Goals as goal

pub returns : goal.returns
returns c = record {
  block = λ at n token opens. block_told at n token opens;
  line = λ at n token opens. line_told at n token opens;
}
