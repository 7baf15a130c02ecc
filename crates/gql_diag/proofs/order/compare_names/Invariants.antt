use Rattle.std.proofs.Common.{◌≡◌, drop}
use Rattle.std.specs.Cmp.Lexicographic.{slice_cmp}
use Rattle.std.specs.Ordering.{nat_cmp}
use Rattle.gql_diag.proofs.order.compare_names.Given as goal

abbrev pub invariant-loop-index : goal.invariant-loop-index
invariant-loop-index l =
    slice_cmp (slice_cmp nat_cmp) l.names l.others ≡ slice_cmp (slice_cmp nat_cmp) (drop l.index l.names) (drop l.index l.others)
