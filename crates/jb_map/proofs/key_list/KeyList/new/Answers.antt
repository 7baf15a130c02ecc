use Rattle.jb_map.proofs.KeyLists.{none_distinct}
use Rattle.jb_map.proofs.key_list.KeyList.new.Goals as goal

pub invariant_of-result : goal.invariant_of-result
invariant_of-result c = (none_distinct _ c.new.ensures.items, tt)
