use Rattle.std.proofs.Common.{ap, ◌∙◌}
use Rattle.jb_map.proofs.KeyLists.{none_distinct}
use Rattle.jb_map.proofs.key_list.KeyList.take_texts.Goals as goal

pub invariant_of-self : goal.invariant_of-self
invariant_of-self c = (none_distinct _ (ap (λ v. v.items) c.replace.ensures.after ∙ c.new.ensures.items), tt)
