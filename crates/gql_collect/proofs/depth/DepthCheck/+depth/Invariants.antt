use Rattle.std.proofs.Common.{◌+◌, ◌*◌, drop}
use Rattle.gql_collect.specs.Nested.{nothing}
use Rattle.gql_collect.specs.Check.{total}
use Rattle.gql_collect.specs.bridge.Check.{unentered}
use Rattle.gql_collect.specs.View.{nested, one_of, then_more, fragments_nested}
use Rattle.gql_collect.specs.bridge.View.{inline_of, field_of}
use Rattle.gql_collect.proofs.DepthSteps.{IsCheckedSoFar}
use Rattle.gql_collect.proofs.depth.DepthCheck.+depth.Given as goal

abbrev pub decreases-selection_set : goal.decreases-selection_set
decreases-selection_set g l = 4 * (total (nested l.self.now.fragments.now l.selections.now) + unentered (fragments_nested l.self.now.fragments.now) l.memo.now) + 3

abbrev pub decreases-one : goal.decreases-one
decreases-one g l = 4 * (total (then_more (one_of l.self.now.fragments.now l.selection.now) nothing) + unentered (fragments_nested l.self.now.fragments.now) l.memo.now) + 2

abbrev pub decreases-field : goal.decreases-field
decreases-field g l = 4 * (total (then_more (field_of l.self.now.fragments.now l.field.now) nothing) + unentered (fragments_nested l.self.now.fragments.now) l.memo.now) + 1

abbrev pub decreases-inline : goal.decreases-inline
decreases-inline g l = 4 * (total (then_more (inline_of l.self.now.fragments.now l.fragment.now) nothing) + unentered (fragments_nested l.self.now.fragments.now) l.memo.now) + 1

abbrev pub decreases-spread : goal.decreases-spread
decreases-spread g l = 4 * (1 + unentered (fragments_nested l.self.now.fragments.now) l.memo.now) + 1

abbrev pub decreases-fragment : goal.decreases-fragment
decreases-fragment g l = 4 * (1 + unentered (fragments_nested l.self.now.fragments.now) l.memo.now)

abbrev pub invariant-selection_set-loop-selection : goal.invariant-selection_set-loop-selection
invariant-selection_set-loop-selection g l =
    IsCheckedSoFar (fragments_nested l.self.fragments.now) l.chain (nested l.self.fragments.now l.selections) l.fn.memo l.fn.steps
    (nested l.self.fragments.now (drop l.selection-index l.selection-items)) l.depth l.memo l.steps
