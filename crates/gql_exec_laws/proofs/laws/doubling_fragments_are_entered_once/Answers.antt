use Rattle.gql_exec_laws.proofs.Doubling.{known}
use Rattle.gql_exec_laws.proofs.laws.doubling_fragments_are_entered_once.Goals as goal

pub returns : goal.returns
returns c = known
