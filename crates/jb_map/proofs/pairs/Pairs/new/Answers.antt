use Rattle.std.proofs.Common.{length, ap, sym, ◌∙◌}
use Rattle.jb_map.proofs.pairs.Pairs.new.Goals as goal

pub invariant_of-result : goal.invariant_of-result
invariant_of-result g c = ap length c.new-2.ensures.items ∙ sym (ap length c.new.ensures)
