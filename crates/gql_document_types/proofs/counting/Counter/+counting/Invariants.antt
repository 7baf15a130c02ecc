use Rattle.std.proofs.Common.{◌+◌, ◌*◌, drop}
use Rattle.gql_document_types.specs.Count.{count}
use Rattle.gql_document_types.specs.bridge.Counted.{one_count, field_count, inline_count, spread_count, count_at}
use Rattle.gql_document_types.specs.Expanded.{expanded}
use Rattle.gql_document_types.proofs.CountCalls.{IsCountedSoFar}
use Rattle.gql_document_types.proofs.counting.Counter.+counting.Given as goal

-- by how many selections there are once each spread is replaced, which is more outside than inside
abbrev pub decreases-all : goal.decreases-all
decreases-all l = 4 * count (expanded l.self.now.fragments.now l.selections.now) + 3

abbrev pub decreases-one : goal.decreases-one
decreases-one l = 4 * one_count l.self.now.fragments.now l.selection.now + 2

abbrev pub decreases-field : goal.decreases-field
decreases-field l = 4 * field_count l.self.now.fragments.now l.field.now + 1

abbrev pub decreases-inline : goal.decreases-inline
decreases-inline l = 4 * inline_count l.self.now.fragments.now l.fragment.now + 1

abbrev pub decreases-spread : goal.decreases-spread
decreases-spread l = 4 * spread_count l.self.now.fragments.now l.spread.now + 1

abbrev pub decreases-fragment : goal.decreases-fragment
decreases-fragment l = 4 * (1 + count_at l.self.now.fragments.now l.number)

abbrev pub invariant-all-loop-selection : goal.invariant-all-loop-selection
invariant-all-loop-selection l =
    IsCountedSoFar l.self.fragments.now l.self.limit l.selections (drop l.selection-index l.selection-items) l.total l.memo
