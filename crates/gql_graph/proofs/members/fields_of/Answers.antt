use Rattle.std.proofs.Common.{◌≡◌, sym, ap, ◌∙◌, subst, length}
use Rattle.gql_graph.specs.bridge.Explored.{AreFields, AreUnmarked}
use Rattle.gql_graph.specs.bridge.Steps.{fields_at, all_reset}
use Rattle.gql_graph.proofs.SetFields.{found, clean_again}
use Rattle.gql_graph.proofs.members.fields_of.Goals as goal

pub returns-clause-fields : goal.returns-clause-fields
returns-clause-fields c =
    let g = c.args.fragments.now in
    let told = c.in_ok-nodes.nodes.items in
    let new = c.flood.new.states in
    let same : c.in_ok-fields.fields.items ≡ fields_at (length g) new told = c.in_ok-fields.ensures ∙ ap (λ b. fields_at b new c.as_slice.result.now) c.len.ensures ∙ ap (fields_at (length g) new) c.as_slice.ensures.value in
    subst (AreFields g (length c.args.states.now) c.args.items.now) (sym same) (found g c.args.states.now new c.args.items.now told c.requires c.in_ok-nodes.ensures)

pub returns-clause-states : goal.returns-clause-states
returns-clause-states c =
    let new = c.flood.new.states in
    subst AreUnmarked (sym (c.reset_all.ensures ∙ ap (all_reset new) c.as_slice-2.ensures.value))
    (clean_again c.args.fragments.now c.args.states.now new c.args.items.now c.in_ok-nodes.nodes.items c.requires c.in_ok-nodes.ensures)
