use Rattle.std.proofs.Common.{◌≡◌, take}
use Rattle.jb_tree.proofs.+identity.Given as goal

abbrev pub invariant-identical::are_items_identical-loop-index : goal.invariant-identical::are_items_identical-loop-index
invariant-identical::are_items_identical-loop-index l = take l.index l.items ≡ take l.index l.others

abbrev pub invariant-identical::are_members_identical-loop-index : goal.invariant-identical::are_members_identical-loop-index
invariant-identical::are_members_identical-loop-index l = take l.index l.members ≡ take l.index l.others
