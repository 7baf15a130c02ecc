use Rattle.std.proofs.Common.{◌≡◌, map}
use Rattle.std_collections.specs.Layout.Former.{on_value}
use Rattle.jb_tree.specs.Same.{sorted}
use Rattle.jb_tree.proofs.Sorting.{done_to}
use Rattle.jb_tree.proofs.sort.+sorting.Given as goal

abbrev pub invariant-sort_items-loop-index : goal.invariant-sort_items-loop-index
invariant-sort_items-loop-index l = (l.items ≡ done_to sorted l.index l.fn.items) × (map sorted l.items ≡ map sorted l.fn.items)

abbrev pub invariant-sort_members-loop-index : goal.invariant-sort_members-loop-index
invariant-sort_members-loop-index l =
    (l.members ≡ done_to (on_value sorted) l.index l.fn.members) × (map (on_value sorted) l.members ≡ map (on_value sorted) l.fn.members)
