use Rattle.gql_exec_laws.proofs.Ways.{only_ways, opened_way, none_opened}
use Rattle.gql_exec_laws.proofs.examples.items_of_one_type_share_their_way.Goals as goal

pub returns-clause-root : goal.returns-clause-root
returns-clause-root c n = tt

pub returns-clause-items : goal.returns-clause-items
returns-clause-items c n = opened_way n

pub returns-clause-none_else : goal.returns-clause-none_else
returns-clause-none_else c n way opens = only_ways n way opens

pub returns-clause-empty : goal.returns-clause-empty
returns-clause-empty c opens = none_opened opens
