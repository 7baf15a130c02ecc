use Rattle.std.proofs.Common.{arith, ◌≡◌, ◌≤◌, length, map, take_all, sym, ap, ◌∙◌}
use Rattle.gql_resolvers.specs.Resolved.{gives_list}
use Rattle.gql_resolvers.specs.Meaning.{item_by}
use Rattle.gql_resolvers.proofs.Views.{meaning_list}
use Rattle.gql_rounds.specs.Known.{entity_of}
use Rattle.gql_rounds.specs.ToldMeaning.{told_value}
use Rattle.gql_rounds.proofs.Values.{beside_told, items-are}
use Rattle.gql_rounds.proofs.told_value.ToldValue.+told.Goals as goal

pub list-returns : goal.list-returns
list-returns t c =
    let values = c.args.values.now in
    let shape = told_value c.args.self.now.composite c.args.item.now in
    let table = c.args.self.now.answers.now in
    let end : length values ≤ c.loop-value.value-index = omega (arith, c.loop-value-test.false, ap length c.as_slice-value-items.ensures) in
    let same : map (item_by entity_of) c.loop-value.items ≡ map (beside_told table shape) values =
    c.loop-value.invariant ∙ ap (map (beside_told table shape)) (take_all c.loop-value.value-index values end) in
    sym (meaning_list entity_of c.loop-value.items ∙ ap gives_list (items-are table shape c.loop-value.items values same))
