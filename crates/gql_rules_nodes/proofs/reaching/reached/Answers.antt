use Rattle.std.proofs.Common.{◌≡◌, ◌++◌, length, take, drop, replicate, sym, ap, ◌∙◌, subst, arith}
use Rattle.std.proofs.lemmas.List.{length-replicate}
use Rattle.gql_graph.proofs.Cyclic.{written}
use Rattle.gql_rules_nodes.specs.Reached.{AreReached}
use Rattle.gql_rules_nodes.proofs.FromStarts.{reaching}
use Rattle.gql_rules_nodes.proofs.reaching.reached.Goals as goal

pub returns : goal.returns
returns c =
    let g = c.args.graph.now in
    let new = c.flood.new.states in
    let begun : c.in_ok-states.states.items ≡ replicate (length g) 0 = c.in_ok-states.ensures.items_if_clones_equal (λ y is. is) ∙ ap (λ n. replicate n 0) c.len.ensures in
    let long : length c.as_mut_slice.result.now ≡ length g = ap length (c.as_mut_slice.ensures.value ∙ begun) ∙ length-replicate (length g) 0 in
    let same : take c.in_ok-states.states.len (new ++ drop (length new) c.in_ok-states.states.items) ≡ new = written c.in_ok-states.states.len new c.in_ok-states.states.items (omega arith) in
    subst (AreReached g c.args.starts.now) (sym same)
    (reaching g c.args.starts.now c.as_mut_slice.result.now new c.in_ok-flood.field-0.items (c.as_mut_slice.ensures.value ∙ begun) (omega (arith, long, c.flood.auto.states)) c.in_ok-flood.ensures)
