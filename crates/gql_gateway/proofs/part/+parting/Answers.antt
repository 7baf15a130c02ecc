use Rattle.std.proofs.Common.{rules, arith, ◌≡◌, ◌<◌, ◌≤◌, ◌+◌, ◌*◌, ℕ, suc, List, [], ◌∷◌, ◌++◌, sym, ap, ◌∙◌}
use Rattle.gql_collect.specs.Sizes.{own, size}
use Rattle.gql_gateway.proofs.Parting.{own-less, part-next, part-end}
use Rattle.gql_gateway.proofs.part.+parting.Goals as goal

pub all-add-requires : goal.all-add-requires
all-add-requires t c =
    let less = own-less c.args.selections.now c.as_slice-selection-items.result.now c.loop-selection.selection-index c.selection-item.result
    c.as_slice-selection-items.ensures c.loop-selection-test.true c.selection-item.is in
    let smaller : 3 * own c.selection-item.result + 1 < 3 * size c.args.selections.now + 2 = omega (arith, less) in
    search rules

pub all-loop-selection-preserved : goal.all-loop-selection-preserved
all-loop-selection-preserved t c =
    part-next c.args.selections.now c.as_slice-selection-items.result.now c.loop-selection.made c.loop-selection.selection-index c.selection-item.result c.add.new.made
    c.as_slice-selection-items.ensures c.loop-selection-test.true c.selection-item.is c.in_ok-add.ensures c.loop-selection.invariant

pub all-returns : goal.all-returns
all-returns t c =
    part-end c.args.selections.now c.as_slice-selection-items.result.now c.loop-selection.made c.loop-selection.selection-index c.loop-selection-test.false c.loop-selection.invariant
