use Rattle.std.proofs.Common.{arith, ◌≡◌, ◌≤◌, length, map, take_all, sym, ap, ◌∙◌}
use Rattle.gql_resolvers.specs.Resolved.{gives_list}
use Rattle.gql_resolvers.specs.DataMeaning.{shaped}
use Rattle.gql_resolvers.specs.bridge.DataShape.{composite_of}
use Rattle.gql_resolvers.specs.Meaning.{item_by, itself}
use Rattle.gql_resolvers.proofs.Shapes.{items-are}
use Rattle.gql_resolvers.proofs.Views.{meaning_list}
use Rattle.gql_resolvers.proofs.data_shape.DataShape.+shape.Goals as goal

pub list-returns : goal.list-returns
list-returns t c =
    let values = c.args.values.now in
    let shape = shaped (composite_of c.args.self.now) c.args.item.now in
    let end : length values ≤ c.loop-value.value-index = omega (arith, c.loop-value-test.false, ap length c.as_slice-value-items.ensures) in
    let same : map (item_by itself) c.loop-value.items ≡ map shape values = c.loop-value.invariant ∙ ap (map shape) (take_all c.loop-value.value-index values end) in
    sym (meaning_list itself c.loop-value.items ∙ ap gives_list (items-are shape c.loop-value.items values same))
