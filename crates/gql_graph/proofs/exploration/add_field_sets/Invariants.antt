use Rattle.std.proofs.Common.{map}
use Rattle.std.specs.List.{range_with_len}
use Rattle.gql_graph.specs.bridge.Explored.{AreAdded}
use Rattle.gql_graph.specs.bridge.Exploring.{IsCleanFor}
use Rattle.gql_graph.proofs.exploration.add_field_sets.Given as goal

-- the pairs of the sets before this one are found
abbrev pub invariant-loop-field : goal.invariant-loop-field
invariant-loop-field g l = record {
  clean : IsCleanFor l.sets l.states l.buckets;
  added : AreAdded l.sets.fragments.now l.sets.keys.now l.sets.classes.now (map (g.C.Compares.items l.compares) (range_with_len 0 l.field)) l.fn.seen l.seen;
}
