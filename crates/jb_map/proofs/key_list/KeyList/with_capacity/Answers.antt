use Rattle.jb_map.proofs.KeyLists.{none_distinct}
use Rattle.jb_map.proofs.key_list.KeyList.with_capacity.Goals as goal

pub invariant_of-result : goal.invariant_of-result
invariant_of-result c = (none_distinct _ c.in_ok-with_capacity.ensures.items, tt)
