use Rattle.std.proofs.Common.{map, drop}
use Rattle.jb_tree.specs.Tree.{trees_of, tree}
use Rattle.jb_io.specs.bridge.Proper.{members_tree}
use Rattle.jb_io.proofs.Nesting.{ItemsLeft, MembersLeft}
use Rattle.jb_io.proofs.proper.+nesting.Given as goal

abbrev pub invariant-items_nest_within-loop-item : goal.invariant-items_nest_within-loop-item
invariant-items_nest_within-loop-item l = ItemsLeft l.levels (trees_of (map tree (drop l.item-index l.item-items))) (trees_of (map tree l.items))

abbrev pub invariant-members_nest_within-loop-index : goal.invariant-members_nest_within-loop-index
invariant-members_nest_within-loop-index l = MembersLeft l.levels (members_tree (drop l.index l.members)) (members_tree l.members)
