use Rattle.std.proofs.Common.{sym}
use Rattle.gql_cst.specs.declared.turn.Turn.TheVariants.{Taken, Refused, Finished}
use Rattle.gql_cst.specs.bridge.Machine.{takes_it, refuses_it, finishes}
use Rattle.gql_cst.proofs.Driven.{goes-again, goes-told, goes-fewer, goes-held}
use Rattle.gql_cst.proofs.machine.Machine.turn_until_judged.Goals as goal

pub loop-smaller : goal.loop-smaller
loop-smaller g c = goes-fewer g.O.Output.stands c.loop.self _ c.args.next c.args.place c.loop.invariant.held (rw c.in-Again.is at c.in_ok-turn.ensures)

pub loop-preserved : goal.loop-preserved
loop-preserved g c =
    let turn = rw c.in-Again.is at c.in_ok-turn.ensures in
    record {
      held = goes-held g.O.Output.stands c.loop.self _ c.args.next c.args.place c.loop.invariant.held turn;
      goes = goes-again g.O.Output.stands c.args.self.now c.loop.self _ c.args.next c.args.place c.loop.invariant.goes turn;
    }

pub returns-in-Taken : goal.returns-in-Taken
returns-in-Taken g c =
    goes-told g.O.Output.stands c.args.self.now c.loop.self _ c.args.next c.args.place Taken (λ s t e. takes_it (sym e)) c.loop.invariant.goes (rw c.in-Taken.is at c.in_ok-turn.ensures)

pub returns-in-Refused : goal.returns-in-Refused
returns-in-Refused g c =
    goes-told g.O.Output.stands c.args.self.now c.loop.self _ c.args.next c.args.place Refused (λ s t e. refuses_it (sym e)) c.loop.invariant.goes (rw c.in-Refused.is at c.in_ok-turn.ensures)

pub returns-in-Finished : goal.returns-in-Finished
returns-in-Finished g c =
    goes-told g.O.Output.stands c.args.self.now c.loop.self _ c.args.next c.args.place Finished (λ s t e. finishes (sym e)) c.loop.invariant.goes (rw c.in-Finished.is at c.in_ok-turn.ensures)
