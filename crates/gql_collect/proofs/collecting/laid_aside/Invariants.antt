use Rattle.std.proofs.Common.{◌≡◌, ◌++◌}
use Rattle.gql_collect.specs.Collected.{sets_of}
use Rattle.gql_collect.specs.bridge.Walk.{lists_of}
use Rattle.gql_collect.proofs.collecting.laid_aside.Given as goal

-- the sets that are left, and those laid aside, make the whole
abbrev pub invariant-loop-set : goal.invariant-loop-set
invariant-loop-set l = sets_of l.set-iterator.iter.rest.now ++ lists_of l.pending ≡ sets_of l.pieces
