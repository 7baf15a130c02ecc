use Rattle.std.proofs.Common.{◌≡◌, ◌++◌, length, take, drop, sym, ◌∙◌, subst, arith}
use Rattle.gql_graph.specs.bridge.Chains.{AreReaching, AreMarkedNodes}
use Rattle.gql_graph.proofs.Chained.{reaching}
use Rattle.gql_graph.proofs.Cyclic.{written}
use Rattle.gql_graph.proofs.chains.reaching.Goals as goal

pub returns : goal.returns
returns c =
    let marks = c.args.recursive.now in
    let new = c.flood.new.states in
    let same : take c.in_ok-states.states.len (new ++ drop (length new) c.in_ok-states.states.items) ≡ new = written c.in_ok-states.states.len new c.in_ok-states.states.items (omega arith) in
    subst (AreReaching c.args.reversed.now marks) (sym same)
    (reaching c.args.reversed.now marks c.as_slice.result.now c.as_mut_slice.result.now new c.in_ok-flood.field-0.items c.requires
    (subst (λ l. AreMarkedNodes marks l (length marks)) (sym c.as_slice.ensures.value) c.in_ok-starts.ensures) (c.as_mut_slice.ensures.value ∙ c.in_ok-states.ensures.items_if_clones_equal (λ y is. is)) c.in_ok-flood.ensures)
