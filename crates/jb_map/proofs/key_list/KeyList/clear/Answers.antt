use Rattle.jb_map.proofs.KeyLists.{none_distinct}
use Rattle.jb_map.proofs.key_list.KeyList.clear.Goals as goal

pub invariant_of-self : goal.invariant_of-self
invariant_of-self c = (none_distinct _ c.clear.ensures.items, tt)
