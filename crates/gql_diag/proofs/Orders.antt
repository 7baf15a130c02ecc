-- The orders of diagnostics are total.
use Rattle.std.specs.Cmp.{IsTotalOrder}
use Rattle.std.specs.Ordering.{on, nat_cmp}
use Rattle.std.proofs.lemmas.Cmp.{nat_cmp_total, nat_list_cmp_total, lists_total, on_total, then_total}
use Rattle.gql_diag.specs.Order.{place_key, place_order, row_of, names_of, other_of, details_order, by_place, list_order}

pub place_order_total : IsTotalOrder place_order
place_order_total = on_total place_key nat_list_cmp_total

pub details_order_total : IsTotalOrder details_order
details_order_total =
    then_total (on_total row_of nat_cmp_total) (then_total (on_total names_of (lists_total nat_list_cmp_total)) (on_total other_of place_order_total))

pub by_place_total : IsTotalOrder by_place
by_place_total = on_total (λ item. item.location) place_order_total

pub list_order_total : IsTotalOrder list_order
list_order_total = then_total by_place_total (on_total (λ item. item.details) details_order_total)
