use Rattle.std.proofs.Common.{rules}
use Rattle.std.specs.Ordering.{is_lt}
use Rattle.std.proofs.lemmas.List.Sorted.{ranks_by, answers_always}
use Rattle.gql_diag.specs.Order.{by_place}
use Rattle.gql_diag.proofs.Orders.{by_place_total}
use Rattle.gql_diag.proofs.order.sort_by_place.Goals as goal

pub returns-clause-sorted : goal.returns-clause-sorted
returns-clause-sorted c = record {
  permutation = c.in_ok-sort_by.ensures.permutation;
  sorted = c.in_ok-sort_by.ensures.sorted (λ x y. is_lt (by_place x y)) (ranks_by by_place_total (λ x. x)) (answers_always _ _ _ (λ f a r g h. search rules));
  stable = c.in_ok-sort_by.ensures.stable (λ x y. is_lt (by_place x y)) (ranks_by by_place_total (λ x. x)) (answers_always _ _ _ (λ f a r g h. search rules));
}
