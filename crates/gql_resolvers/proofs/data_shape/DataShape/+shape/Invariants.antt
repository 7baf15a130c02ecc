use Rattle.std.proofs.Common.{◌≡◌, ◌+◌, ◌*◌, map, take}
use Rattle.gql_resolvers.specs.DataMeaning.{shaped}
use Rattle.gql_resolvers.specs.bridge.DataShape.{composite_of}
use Rattle.gql_resolvers.specs.Meaning.{item_by, itself}
use Rattle.gql_resolvers.proofs.Height.{height}
use Rattle.gql_resolvers.proofs.data_shape.DataShape.+shape.Given as goal

abbrev pub decreases-shaped : goal.decreases-shaped
decreases-shaped l = 5 * height l.ty.now + 4

abbrev pub decreases-unfailed : goal.decreases-unfailed
decreases-unfailed l = 5 * height l.ty.now + 3

abbrev pub decreases-list_or_leaf : goal.decreases-list_or_leaf
decreases-list_or_leaf l = 5 * height l.item.now + 7

abbrev pub decreases-list : goal.decreases-list
decreases-list l = 5 * height l.item.now + 6

abbrev pub decreases-item : goal.decreases-item
decreases-item l = 5 * height l.ty.now + 5

-- the items so far mean what the values are shaped to
abbrev pub invariant-list-loop-value : goal.invariant-list-loop-value
invariant-list-loop-value l = map (item_by itself) l.items ≡ map (shaped (composite_of l.self) l.item) (take l.value-index l.values)
