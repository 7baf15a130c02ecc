use Rattle.gql_grammar.proofs.Allowed.{AllAllowed-sentence}
use Rattle.gql_grammar.proofs.Unique.{Sentence-unique}
use Rattle.gql_grammar.proofs.Leaves.{leaves-sentence}
use Rattle.gql_grammar.proofs.laws.sentences_have_one_tree.Goals as goal

pub returns : goal.returns
returns c = record { tree = λ start ws f g d e. Sentence-unique d e; words = λ start ws f d. leaves-sentence d; nodes = λ start ws f d. AllAllowed-sentence d }
