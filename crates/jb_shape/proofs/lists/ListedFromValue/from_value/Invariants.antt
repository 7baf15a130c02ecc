use Rattle.std.proofs.Common.{◌≡◌, take, Ok}
use Rattle.jb_shape.specs.Outcome.{each}
use Rattle.jb_shape.proofs.lists.ListedFromValue.from_value.Given as goal

abbrev pub invariant-loop-value : goal.invariant-loop-value
invariant-loop-value g l = each g.T.FromValue.reading (take l.value-index l.value-items) ≡ Ok l.items
