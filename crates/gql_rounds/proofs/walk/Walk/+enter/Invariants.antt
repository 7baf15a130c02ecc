use Rattle.std.proofs.Common.{◌+◌, ◌*◌, drop}
use Rattle.gql_exec.specs.Trails.{group_of}
use Rattle.gql_resolvers.proofs.Height.{height}
use Rattle.gql_rounds.specs.bridge.Walked.{stands_of, world_of}
use Rattle.gql_rounds.proofs.Entering.{IsEntering}
use Rattle.gql_rounds.proofs.walk.Walk.+enter.Given as goal

abbrev pub decreases-enter : goal.decreases-enter
decreases-enter l = 4 * height l.ty.now + 2

abbrev pub decreases-enter_list : goal.decreases-enter_list
decreases-enter_list l = 4 * height l.ty.now + 1

abbrev pub decreases-enter_items : goal.decreases-enter_items
decreases-enter_items l = 4 * height l.ty.now + 4

abbrev pub decreases-enter_item : goal.decreases-enter_item
decreases-enter_item l = 4 * height l.ty.now + 3

-- the objects so far with those of the items that are left make the whole
abbrev pub invariant-enter_items-loop-number : goal.invariant-enter_items-loop-number
invariant-enter_items-loop-number l =
    IsEntering (world_of l.self) (group_of l.field.group).pieces l.ty (stands_of l.below) (stands_of l.fn.below) (drop l.number l.items) l.items
