use Rattle.std.proofs.Common.{◌≡◌, min, length, arith}
use Rattle.std.specs.Ordering.{nat_cmp}
use Rattle.std.specs.Cmp.Lexicographic.{slice_cmp}
use Rattle.gql_diag.proofs.Names.{slice_cmp-ended}
use Rattle.gql_diag.proofs.order.compare_names.Goals as goal

pub returns : goal.returns
returns c =
    let ended : c.loop-index.index ≡ min (length c.args.names.now) (length c.args.others.now) = omega arith in
    cc (c.loop-index.invariant, slice_cmp-ended (slice_cmp nat_cmp) c.args.names.now c.args.others.now c.loop-index.index ended)
