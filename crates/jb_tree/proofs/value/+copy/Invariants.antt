use Rattle.std.proofs.Common.{◌≡◌, take}
use Rattle.jb_tree.proofs.value.+copy.Given as goal

abbrev pub invariant-copy_items-loop-item : goal.invariant-copy_items-loop-item
invariant-copy_items-loop-item l = l.copies ≡ take l.item-index l.items

abbrev pub invariant-copy_members-loop-index : goal.invariant-copy_members-loop-index
invariant-copy_members-loop-index l = l.copies ≡ take l.index l.members
