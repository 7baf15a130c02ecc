use Rattle.std.proofs.Common.{◌∷◌, reverse, length}
use Rattle.gql_cst.specs.bridge.Frames.{IsSame}
use Rattle.gql_cst.proofs.machine.skip_ended.Given as goal

abbrev pub invariant-loop-top : goal.invariant-loop-top
invariant-loop-top l = IsSame (l.initial.top ∷ reverse l.initial.outer.items) (l.top ∷ reverse l.outer.items)

abbrev pub decreases-loop-top : goal.decreases-loop-top
decreases-loop-top l = length l.outer.items
