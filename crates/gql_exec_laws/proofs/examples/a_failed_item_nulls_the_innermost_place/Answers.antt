use Rattle.gql_exec_laws.proofs.Nulls.{item_known, inner_known, outer_known}
use Rattle.gql_exec_laws.proofs.examples.a_failed_item_nulls_the_innermost_place.Goals as goal

pub returns-clause-item : goal.returns-clause-item
returns-clause-item c = item_known

pub returns-clause-inner : goal.returns-clause-inner
returns-clause-inner c = inner_known

pub returns-clause-outer : goal.returns-clause-outer
returns-clause-outer c = outer_known
