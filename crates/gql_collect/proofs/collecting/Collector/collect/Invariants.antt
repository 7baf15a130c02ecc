use Rattle.std.proofs.Common.{◌+◌, ◌≤◌}
use Rattle.gql_collect.specs.bridge.Collected.{setting_of}
use Rattle.gql_collect.specs.Sizes.{sets_size, outer_size, fragments_size}
use Rattle.gql_collect.specs.bridge.Walk.{walk_of, lists_of}
use Rattle.gql_collect.proofs.Measure.{left_over, weight}
use Rattle.gql_collect.proofs.OnTheWay.{IsOnTheWay}
use Rattle.gql_collect.proofs.collecting.Collector.collect.Given as goal

abbrev pub invariant-loop-list : goal.invariant-loop-list
invariant-loop-list g l =
    record {
      way : IsOnTheWay (setting_of l.self) l.fn.marks (lists_of l.fn.pending) (walk_of l.marks l.pending l.fields);
      looks : l.steps + left_over (setting_of l.self) (walk_of l.marks l.pending l.fields)
          ≤ l.fn.steps + (sets_size (lists_of l.fn.pending) + fragments_size (setting_of l.self).fragments);
      rises : l.fn.steps ≤ l.steps;
      counted : l.fn.steps + outer_size (lists_of l.fn.pending) ≤ l.steps + outer_size (lists_of l.pending);
    }

abbrev pub decreases-loop-list : goal.decreases-loop-list
decreases-loop-list g l = weight (setting_of l.self) (walk_of l.marks l.pending l.fields)
