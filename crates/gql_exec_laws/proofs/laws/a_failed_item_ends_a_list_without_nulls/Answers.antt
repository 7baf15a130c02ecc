use Rattle.gql_exec_laws.proofs.FailedItem.{known_strict}
use Rattle.gql_exec_laws.proofs.laws.a_failed_item_ends_a_list_without_nulls.Goals as goal

pub returns : goal.returns
returns c = known_strict
