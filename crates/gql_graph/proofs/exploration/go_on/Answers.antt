use Rattle.std.proofs.Common.{sym}
use Rattle.gql_graph.specs.bridge.Exploring.{sets_by}
use Rattle.gql_graph.proofs.Growing.{next_turn, explored}
use Rattle.gql_graph.proofs.exploration.go_on.Goals as goal

pub returns-in-None : goal.returns-in-None
returns-in-None g c =
    explored (sets_by (g.C.Compares.items c.args.compares.now) (g.C.Compares.below c.args.compares.now) c.args.sets.now) c.args.sets.now.classes.now c.loop-next.seen c.loop-next.next
    (sym c.in-None.ensures) c.loop-next.invariant.turn

pub loop-next-preserved : goal.loop-next-preserved
loop-next-preserved g c = record {
  clean = c.in_ok-go_below-in-Some.ensures.clean;
  turn = next_turn (sets_by (g.C.Compares.items c.args.compares.now) (g.C.Compares.below c.args.compares.now) c.args.sets.now) c.args.sets.now.classes.now c.loop-next.seen c.go_below.new.seen
      c.loop-next.next c.in-Some.pair (sym c.in-Some.ensures) c.in_ok-go_below-in-Some.ensures.below c.loop-next.invariant.turn;
}
