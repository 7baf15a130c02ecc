use Rattle.std.proofs.Common.{◌≡◌, ◌+◌, ◌*◌, map, take}
use Rattle.gql_rounds.specs.Known.{entity_of}
use Rattle.gql_rounds.specs.ToldMeaning.{told_value}
use Rattle.gql_resolvers.specs.Meaning.{item_by}
use Rattle.gql_resolvers.proofs.Height.{height}
use Rattle.gql_rounds.proofs.Values.{beside_told}
use Rattle.gql_rounds.proofs.told_value.ToldValue.+told.Given as goal

abbrev pub decreases-value : goal.decreases-value
decreases-value l = 5 * height l.ty.now + 4

abbrev pub decreases-unfailed : goal.decreases-unfailed
decreases-unfailed l = 5 * height l.ty.now + 3

abbrev pub decreases-list_or_leaf : goal.decreases-list_or_leaf
decreases-list_or_leaf l = 5 * height l.item.now + 7

abbrev pub decreases-list : goal.decreases-list
decreases-list l = 5 * height l.item.now + 6

abbrev pub decreases-item : goal.decreases-item
decreases-item l = 5 * height l.ty.now + 5

-- the items so far mean what the values are told to be
abbrev pub invariant-list-loop-value : goal.invariant-list-loop-value
invariant-list-loop-value l = map (item_by entity_of) l.items ≡ map (beside_told l.self.answers.now (told_value l.self.composite l.item)) (take l.value-index l.values)
