use Rattle.gql_exec_laws.proofs.FailedItem.{known}
use Rattle.gql_exec_laws.proofs.laws.a_failed_item_nulls_itself.Goals as goal

pub returns : goal.returns
returns c = known
