use Rattle.std.proofs.Common.{◌≡◌, ◌++◌, sym, ap, ◌∙◌}
use Rattle.gql_graph.specs.bridge.Exploring.{sets_by}
use Rattle.gql_graph.proofs.Growing.{goes}
use Rattle.gql_graph.proofs.exploration.go_below.Goals as goal

pub returns-in_ok-add_set-in-Some-clause-below : goal.returns-in_ok-add_set-in-Some-clause-below
returns-in_ok-add_set-in-Some-clause-below g c =
    let items = g.C.Compares.items c.args.compares.now in
    let p = c.args.pair in
    let are : c.as_slice.result.now ≡ items p.first ++ items p.second =
    c.as_slice.ensures.value ∙ c.in_ok-items-in-Some.ensures ∙ ap (λ l. l ++ c.items-in-Some.result.now) c.items.ensures ∙ ap (λ l. items p.first ++ l) c.items-in-Some.ensures in
    goes (sets_by items (g.C.Compares.below c.args.compares.now) c.args.sets.now) c.args.sets.now.classes.now c.args.seen.now c.add_set.new.seen p c.in-Some.in_full c.as_slice.result.now
    (sym c.in-Some.ensures) are c.in_ok-add_set-in-Some.ensures.added
