use Rattle.std.proofs.Common.{arith}
use Rattle.std.proofs.lemmas.Grind.{common_steps}
use Rattle.jb_print.proofs.Compacts.{compact-Array, compact-Object}
use Rattle.jb_print.proofs.Trees.{drop-member}
use Rattle.jb_print.proofs.compact.+compact.Goals as goal

pub write_members-loop-index-preserved : goal.write_members-loop-index-preserved
write_members-loop-index-preserved t c =
    let left = drop-member c.args.members.now c.loop-index.index _ _ c.key_at.ensures c.value_at.ensures in
    grind (arith, common_steps)

pub write_value-returns-in-Array : goal.write_value-returns-in-Array
write_value-returns-in-Array t c = rw (c.in-Array.is, compact-Array) c.write_items.ensures

pub write_value-returns-in-Object : goal.write_value-returns-in-Object
write_value-returns-in-Object t c = rw (c.in-Object.is, compact-Object) c.write_members.ensures
