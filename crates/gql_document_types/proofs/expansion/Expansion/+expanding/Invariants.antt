use Rattle.std.proofs.Common.{◌≡◌, ◌+◌, ◌*◌, ◌++◌, drop}
use Rattle.gql_document_types.specs.Count.{count}
use Rattle.gql_document_types.specs.bridge.Counted.{one_count, field_count, inline_count, spread_count, count_at}
use Rattle.gql_document_types.specs.Expanded.{expanded}
use Rattle.gql_document_types.proofs.expansion.Expansion.+expanding.Given as goal

-- by how many selections there are once each spread is replaced, which is more outside than inside
abbrev pub decreases-selection_set : goal.decreases-selection_set
decreases-selection_set l = 6 * count (expanded l.self.now.fragments.now l.set.now.selections) + 4

abbrev pub decreases-all : goal.decreases-all
decreases-all l = 6 * count (expanded l.self.now.fragments.now l.selections.now) + 3

abbrev pub decreases-add : goal.decreases-add
decreases-add l = 6 * one_count l.self.now.fragments.now l.selection.now + 2

abbrev pub decreases-field : goal.decreases-field
decreases-field l = 6 * field_count l.self.now.fragments.now l.field.now + 1

abbrev pub decreases-inline : goal.decreases-inline
decreases-inline l = 6 * inline_count l.self.now.fragments.now l.fragment.now + 1

abbrev pub decreases-add_spread : goal.decreases-add_spread
decreases-add_spread l = 6 * spread_count l.self.now.fragments.now l.spread.now + 1

abbrev pub decreases-in_place : goal.decreases-in_place
decreases-in_place l = 6 * (1 + count_at l.self.now.fragments.now l.number)

-- what is made and what is left make the whole
abbrev pub invariant-all-loop-selection : goal.invariant-all-loop-selection
invariant-all-loop-selection l =
    l.made ++ expanded l.self.fragments.now (drop l.selection-index l.selection-items) ≡ expanded l.self.fragments.now l.selections
