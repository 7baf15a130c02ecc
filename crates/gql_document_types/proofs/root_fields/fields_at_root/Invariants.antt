use Rattle.gql_document_types.specs.bridge.RootWalk.{walk_of}
use Rattle.gql_document_types.proofs.Measure.{weight}
use Rattle.gql_document_types.proofs.RootWalk.{IsOnTheWay}
use Rattle.gql_document_types.proofs.root_fields.fields_at_root.Given as goal

abbrev pub invariant-loop-list : goal.invariant-loop-list
invariant-loop-list l = IsOnTheWay l.fragments l.selections (walk_of l.entered l.pending l.fields)

abbrev pub decreases-loop-list : goal.decreases-loop-list
decreases-loop-list l = weight l.fragments (walk_of l.entered l.pending l.fields)
