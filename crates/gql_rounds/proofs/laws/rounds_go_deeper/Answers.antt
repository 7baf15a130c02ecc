use Rattle.gql_rounds.proofs.Few.{rounds-deeper}
use Rattle.gql_rounds.proofs.laws.rounds_go_deeper.Goals as goal

pub returns : goal.returns
returns c = λ subject old new depth quiet next. rounds-deeper subject old new depth quiet next
