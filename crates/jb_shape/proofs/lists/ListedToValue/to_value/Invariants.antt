use Rattle.std.proofs.Common.{◌≡◌, take, Ok}
use Rattle.jb_shape.specs.Outcome.{each}
use Rattle.jb_shape.proofs.lists.ListedToValue.to_value.Given as goal

abbrev pub invariant-loop-item : goal.invariant-loop-item
invariant-loop-item g l = each g.T.ToValue.shape (take l.item-index l.item-items) ≡ Ok l.values
