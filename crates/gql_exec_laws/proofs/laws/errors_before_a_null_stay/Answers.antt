use Rattle.gql_exec_laws.proofs.InnerNull.{known_behind}
use Rattle.gql_exec_laws.proofs.laws.errors_before_a_null_stay.Goals as goal

pub returns : goal.returns
returns c = known_behind
