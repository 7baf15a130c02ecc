use Rattle.gql_document.specs.bridge.RootWalk.{walk_of}
use Rattle.gql_document.proofs.RootMeasure.{weight}
use Rattle.gql_document.proofs.RootWay.{IsOnTheWay}
use Rattle.gql_document.proofs.root_selections.root_selections.Given as goal

-- what is found, and what is found in what is left, make the whole
abbrev pub invariant-loop-list : goal.invariant-loop-list
invariant-loop-list l = IsOnTheWay l.schema l.fragments l.selections (walk_of l.entered l.pending l.roots)

abbrev pub decreases-loop-list : goal.decreases-loop-list
decreases-loop-list l = weight l.fragments (walk_of l.entered l.pending l.roots)
