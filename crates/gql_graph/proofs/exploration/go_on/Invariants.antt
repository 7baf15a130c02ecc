use Rattle.gql_graph.specs.bridge.Exploring.{IsCleanFor, sets_by}
use Rattle.gql_graph.proofs.Growing.{Turn}
use Rattle.gql_graph.proofs.exploration.go_on.Given as goal

-- what is below each pair before this one is found
abbrev pub invariant-loop-next : goal.invariant-loop-next
invariant-loop-next g l = record {
  clean : IsCleanFor l.sets l.states l.buckets;
  turn : Turn (sets_by (g.C.Compares.items l.compares) (g.C.Compares.below l.compares) l.sets) l.sets.classes.now l.seen l.next;
}
