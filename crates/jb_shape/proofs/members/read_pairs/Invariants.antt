use Rattle.std.proofs.Common.{◌≡◌, take, Ok}
use Rattle.jb_shape.specs.Outcome.{each}
use Rattle.jb_shape.specs.Lists.{read_member}
use Rattle.jb_shape.proofs.members.read_pairs.Given as goal

abbrev pub invariant-loop-index : goal.invariant-loop-index
invariant-loop-index g l = each (read_member g.K.MapKey.key_reading g.V.FromValue.reading) (take l.index l.members) ≡ Ok l.pairs
