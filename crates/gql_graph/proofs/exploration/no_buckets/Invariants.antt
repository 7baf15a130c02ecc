use Rattle.std.proofs.Common.{◌≡◌}
use Rattle.gql_graph.specs.bridge.Exploring.{no_buckets}
use Rattle.gql_graph.proofs.exploration.no_buckets.Given as goal

abbrev pub invariant-loop-key : goal.invariant-loop-key
invariant-loop-key l = l.made ≡ no_buckets l._key
