use Rattle.gql_exec_laws.proofs.Merged.{known}
use Rattle.gql_exec_laws.proofs.laws.sets_of_one_key_are_merged.Goals as goal

pub returns : goal.returns
returns c = known
