use Rattle.gql_rounds.proofs.Noted.{kept-value}
use Rattle.gql_rounds.proofs.laws.told_answers_stay.Goals as goal

pub returns : goal.returns
returns c = λ table key value k has. kept-value k key value table has
