use Rattle.std.proofs.Common.{◌+◌, ◌*◌, drop}
use Rattle.gql_gateway.proofs.Parting.{IsPartedSoFar}
use Rattle.gql_collect.specs.Sizes.{own, size}
use Rattle.gql_gateway.proofs.part.+parting.Given as goal

abbrev pub decreases-all : goal.decreases-all
decreases-all l = 3 * size l.selections.now + 2

abbrev pub decreases-add : goal.decreases-add
decreases-add l = 3 * own l.selection.now + 1

abbrev pub decreases-add_inline : goal.decreases-add_inline
decreases-add_inline l = 3 * (1 + size l.fragment.now.selection_set.selections)

abbrev pub invariant-all-loop-selection : goal.invariant-all-loop-selection
invariant-all-loop-selection l = IsPartedSoFar l.selections l.made (drop l.selection-index l.selection-items)
