use Rattle.std.proofs.Common.{◌-◌}
use Rattle.gql_graph.proofs.Flooded.{Turn, left}
use Rattle.gql_graph.proofs.reach.flood.Given as goal

-- each node of the queue is reached and marked, and the edges of those that are done lead to marked nodes
abbrev pub invariant-loop-next : goal.invariant-loop-next
invariant-loop-next l = Turn l.graph l.fn.states l.starts l.from l.to l.states l.queue.items l.next

-- each node comes into the queue once
abbrev pub decreases-loop-next : goal.decreases-loop-next
decreases-loop-next l = left l.from l.fn.states - l.next
