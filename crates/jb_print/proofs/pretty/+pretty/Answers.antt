use Rattle.std.proofs.Common.{arith}
use Rattle.std.proofs.lemmas.Grind.{common_steps}
use Rattle.jb_print.proofs.Trees.{drop-member}
use Rattle.jb_print.proofs.Pretties.{pretty-Array, pretty-Object}
use Rattle.jb_print.proofs.pretty.+pretty.Goals as goal

pub write_members-loop-index-preserved : goal.write_members-loop-index-preserved
write_members-loop-index-preserved t c =
    let left = drop-member c.args.members.now c.loop-index.index _ _ c.key_at.ensures c.value_at.ensures in
    grind (arith, common_steps)

pub write_pretty-returns-in-Array : goal.write_pretty-returns-in-Array
write_pretty-returns-in-Array t c = rw (c.in-Array.is, pretty-Array) c.write_list.ensures

pub write_pretty-returns-in-Object : goal.write_pretty-returns-in-Object
write_pretty-returns-in-Object t c = rw (c.in-Object.is, pretty-Object) c.write_object.ensures
