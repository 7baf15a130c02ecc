use Rattle.gql_diag.specs.Order.{by_place, list_order}
use Rattle.gql_diag.proofs.Orders.{by_place_total, list_order_total}
use Rattle.gql_diag.proofs.OneSort.{one_stable_sort}
use Rattle.gql_diag.proofs.laws.stable_sorts_are_one.Goals as goal

pub returns-clause-merged : goal.returns-clause-merged
returns-clause-merged c = one_stable_sort by_place by_place_total

pub returns-clause-sorted : goal.returns-clause-sorted
returns-clause-sorted c = one_stable_sort list_order list_order_total
