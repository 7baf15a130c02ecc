use Rattle.std.proofs.Common.{◌≡◌, take}
use Rattle.jb_map.proofs.pairs.Pairs.copy.Given as goal

abbrev pub invariant-loop-index : goal.invariant-loop-index
invariant-loop-index g l = l.copies ≡ take l.index l.self
