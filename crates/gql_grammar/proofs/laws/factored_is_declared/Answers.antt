use Rattle.gql_grammar.specs.Row.{nothing}
use Rattle.gql_grammar.proofs.Fitting.{Fits-read, whole_fits}
use Rattle.gql_grammar.proofs.Sound.{to_declared}
use Rattle.gql_grammar.proofs.Complete.{to_factored}
use Rattle.gql_grammar.proofs.Turns.{node_pure}
use Rattle.gql_grammar.proofs.laws.factored_is_declared.Goals as goal

pub returns : goal.returns
returns c = record { sound = λ start ws f h d. whole_fits (node_pure start h) (to_declared (node_pure start h) d); complete = λ start ws f d. to_factored (Fits-read d nothing) }
