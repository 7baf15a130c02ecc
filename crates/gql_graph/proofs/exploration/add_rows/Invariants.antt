use Rattle.std.proofs.Common.{take}
use Rattle.gql_graph.specs.bridge.Explored.{AreAdded}
use Rattle.gql_graph.specs.bridge.Exploring.{IsCleanFor}
use Rattle.gql_graph.proofs.exploration.add_rows.Given as goal

-- the pairs of the sets before this one are found
abbrev pub invariant-loop-row : goal.invariant-loop-row
invariant-loop-row l = record {
  clean : IsCleanFor l.sets l.states l.buckets;
  added : AreAdded l.sets.fragments.now l.sets.keys.now l.sets.classes.now (take l.row-index l.rows) l.fn.seen l.seen;
}
