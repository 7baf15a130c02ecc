use Rattle.gql_exec_laws.proofs.Nulls.{held_item, held_list, held_field, held_root}
use Rattle.gql_exec_laws.proofs.examples.nulls_fall_at_the_innermost_place.Goals as goal

pub returns-clause-item : goal.returns-clause-item
returns-clause-item c = held_item

pub returns-clause-inner : goal.returns-clause-inner
returns-clause-inner c = held_list

pub returns-clause-outer : goal.returns-clause-outer
returns-clause-outer c = held_field

pub returns-clause-root : goal.returns-clause-root
returns-clause-root c = held_root
