use Rattle.std.proofs.Common.{rules, arith, ◌≡◌, ◌+◌, ◌<◌, map, IfOk, sym, ap, ◌∙◌, subst}
use Rattle.gql_resolvers.specs.Resolved.{gives_list}
use Rattle.gql_resolvers.specs.Meaning.{item_by, meaning_by, meanings_by}
use Rattle.gql_resolvers.proofs.Views.{meaning_list}
use Rattle.gql_exec.specs.Mapped.{mapped}
use Rattle.gql_exec.proofs.Lists.{list-stands}
use Rattle.gql_exec.proofs.Weights.{weight, weights, item-lower}
use Rattle.gql_exec.proofs.standing.+stand.Goals as goal

pub value-list-requires : goal.value-list-requires
value-list-requires g t c =
    let sees = g.K.Standing.sees in
    let is : meaning_by sees c.args.resolved ≡ gives_list (meanings_by sees c.in-List.items) = ap (meaning_by sees) c.in-List.is ∙ meaning_list sees c.in-List.items in
    let smaller : weights (meanings_by sees c.in-List.items) < weight (meaning_by sees c.args.resolved) = omega (arith, ap weight is) in
    search rules

pub value-returns-in-List : goal.value-returns-in-List
value-returns-in-List g t c =
    let sees = g.K.Standing.sees in
    let is : meaning_by sees c.args.resolved ≡ gives_list (meanings_by sees c.in-List.items) = ap (meaning_by sees) c.in-List.is ∙ meaning_list sees c.in-List.items in
    subst (λ m. IfOk c.list.result (λ made. meaning_by g.K.Standing.shows made ≡ mapped (g.K.Standing.stands c.args.kind.now) m)) (sym is) c.list.ensures

pub list-item-requires : goal.list-item-requires
list-item-requires g t c =
    let sees = g.K.Standing.sees in
    let lower = item-lower sees (g.K.Standing.stands c.args.kind.now) (map (item_by g.K.Standing.shows) c.loop-each.made) c.in-Some.each c.loop-each.each-iterator c.next.new.self c.args.items
    c.in-Some.ensures.steps c.loop-each.invariant in
    let smaller : 1 + weight (item_by sees c.in-Some.each) < weights (meanings_by sees c.args.items) = lower in
    search rules

pub list-returns : goal.list-returns
list-returns g t c =
    meaning_list g.K.Standing.shows c.loop-each.made
    ∙ ap gives_list (list-stands g.K.Standing.sees g.K.Standing.shows (g.K.Standing.stands c.args.kind.now) c.loop-each.made c.loop-each.each-iterator c.args.items c.in-None.ensures.steps.0 c.loop-each.invariant)

pub item-value-requires : goal.item-value-requires
item-value-requires g t c =
    let sees = g.K.Standing.sees in
    let smaller : weight (meaning_by sees c.in-Ok.resolved) < 1 + weight (item_by sees c.args.item) = omega (arith, ap (λ r. weight (item_by sees r)) c.in-Ok.is) in
    search rules
