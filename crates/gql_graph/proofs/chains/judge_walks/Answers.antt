use Rattle.std.proofs.Common.{ℕ, Bool, List, length, subst}
use Rattle.gql_graph.specs.bridge.Chains.{AreReaching, is_long}
use Rattle.gql_graph.specs.bridge.Cycles.{Told}
use Rattle.gql_graph.proofs.Chained.{judged}
use Rattle.gql_graph.proofs.chains.judge_walks.Goals as goal

pub returns : goal.returns
returns c =
    let chained = c.in_ok-chained.chained.items in
    let cyclic = c.in_ok-cyclic.cyclic.items in
    judged c.args.graph.now c.in_ok-reversed.reversed c.args.named c.in_ok-recursive.recursive.items chained c.in_ok-long.long.items cyclic c.in_ok-reversed.ensures c.in_ok-recursive.ensures
    (subst (λ l. AreReaching c.in_ok-reversed.reversed l cyclic) c.as_slice.ensures.value c.in_ok-cyclic.ensures) c.in_ok-chained.ensures.marks c.in_ok-chained.ensures.count
    (subst (λ (p : List Bool × List ℕ). Told (is_long p.0 p.1) c.in_ok-long.long.items (length p.0)) (λ i. (c.as_slice-2.ensures.value i, c.as_slice-3.ensures.value i)) c.in_ok-long.ensures)
