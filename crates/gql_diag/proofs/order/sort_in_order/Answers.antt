use Rattle.std.proofs.Common.{rules}
use Rattle.std.specs.Ordering.{is_lt}
use Rattle.std.proofs.lemmas.List.Sorted.{ranks_by, answers_always}
use Rattle.gql_diag.specs.Order.{list_order}
use Rattle.gql_diag.proofs.Orders.{list_order_total}
use Rattle.gql_diag.proofs.order.sort_in_order.Goals as goal

pub returns-clause-sorted : goal.returns-clause-sorted
returns-clause-sorted c = record {
  permutation = c.in_ok-sort_by.ensures.permutation;
  sorted = c.in_ok-sort_by.ensures.sorted (λ x y. is_lt (list_order x y)) (ranks_by list_order_total (λ x. x)) (answers_always _ _ _ (λ f a r g h. search rules));
  stable = c.in_ok-sort_by.ensures.stable (λ x y. is_lt (list_order x y)) (ranks_by list_order_total (λ x. x)) (answers_always _ _ _ (λ f a r g h. search rules));
}
