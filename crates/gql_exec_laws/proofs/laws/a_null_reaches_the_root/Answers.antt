use Rattle.gql_exec_laws.proofs.RootNull.{known}
use Rattle.gql_exec_laws.proofs.laws.a_null_reaches_the_root.Goals as goal

pub returns : goal.returns
returns c = known
