use Rattle.std.proofs.Common.{◌≡◌, ℕ, List, ◌∷◌, true, length, reverse}
use Rattle.gql_cst.specs.Forest.{Plain}
use Rattle.gql_cst.specs.bridge.Frames.{is_framed}
use Rattle.gql_cst.specs.bridge.Held.{Holds}
use Rattle.gql_cst.specs.bridge.Lies.{Lies}
use Rattle.gql_cst.specs.bridge.Machine.{State, all_ended}
use Rattle.gql_cst.proofs.machine.Machine.close.Given as goal

abbrev pub invariant-loop-outer : goal.invariant-loop-outer
invariant-loop-outer g l = record {
  framed : is_framed (l.top ∷ reverse l.outer.items) ≡ true;
  lies : (at : ℕ) (waiting : List Plain) (s : State) → Holds g.O.Output.stands l.fn.self at waiting s
      → (t : State) × Lies g.O.Output.stands (l.top ∷ reverse l.outer.items) l.out at waiting t × (all_ended t ≡ all_ended s);
}

abbrev pub decreases-loop-outer : goal.decreases-loop-outer
decreases-loop-outer g l = length l.outer.items
