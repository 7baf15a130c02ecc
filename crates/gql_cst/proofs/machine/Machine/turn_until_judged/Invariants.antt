use Rattle.std.proofs.Common.{◌∷◌, reverse}
use Rattle.gql_grammar.specs.bridge.Turns.{turns}
use Rattle.gql_cst.specs.bridge.Frames.{stack_of}
use Rattle.gql_cst.specs.bridge.Machine.{Turned, Settles}
use Rattle.gql_cst.specs.bridge.Held.{Goes, IsHeld}
use Rattle.gql_cst.proofs.machine.Machine.turn_until_judged.Given as goal

abbrev pub invariant-loop : goal.invariant-loop
invariant-loop g l = record {
  held : IsHeld g.O.Output.stands l.self l.place;
  goes : Goes g.O.Output.stands l.initial.self l.self l.place (λ s t. (end : Turned) → Settles l.next t end → Settles l.next s end);
}

abbrev pub decreases-loop : goal.decreases-loop
decreases-loop g l = turns (stack_of (l.self.top ∷ reverse l.self.outer.items))
