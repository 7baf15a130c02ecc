use Rattle.jb_tree.proofs.Sameness.{objects_by_members, arrays_by_items}
use Rattle.jb_tree.proofs.laws.the_same_have_the_same_parts.Goals as goal

pub returns : goal.returns
returns c = record { objects = objects_by_members; arrays = arrays_by_items }
