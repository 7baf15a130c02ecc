use Rattle.std.proofs.Common.{◌≡◌, length, subst, arith}
use Rattle.gql_graph.specs.bridge.Chains.{any_next}
use Rattle.gql_graph.specs.bridge.Cycles.{Told}
use Rattle.gql_graph.specs.Graph.{row}
use Rattle.gql_graph.proofs.Chained.{next_round}
use Rattle.gql_graph.proofs.chains.next_marks.Goals as goal

pub returns : goal.returns
returns c =
    let g = c.args.graph.now in
    let all : c.loop-node.node ≡ length g = omega arith in
    next_round g c.args.named c.args.marks.now c.in_ok-through.through.items c.loop-node.made.items c.in_ok-through.ensures
    (subst (Told (λ v. any_next c.args.named c.args.marks.now c.in_ok-through.through.items (row g v)) c.loop-node.made.items) all c.loop-node.invariant)
