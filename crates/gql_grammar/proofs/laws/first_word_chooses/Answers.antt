use Rattle.gql_grammar.proofs.Unique.{way-reads}
use Rattle.gql_grammar.proofs.laws.first_word_chooses.Goals as goal

pub returns : goal.returns
returns c = λ r w ws vs x y a m d. way-reads r w m d
