use Rattle.std.proofs.Common.{◌≡◌, take, true}
use Rattle.std.specs.Map.{keys_of}
use Rattle.jb_shape.specs.Variants.{all_known}
use Rattle.jb_shape.proofs.variants.all_known.Given as goal

abbrev pub invariant-loop-index : goal.invariant-loop-index
invariant-loop-index l = all_known l.known (take l.index (keys_of l.members)) ≡ true
