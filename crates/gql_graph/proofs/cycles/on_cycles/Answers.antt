use Rattle.std.proofs.Common.{◌≡◌, length, subst, arith}
use Rattle.gql_graph.specs.bridge.Cycles.{Told, shares_part}
use Rattle.gql_graph.specs.Graph.{row}
use Rattle.gql_graph.proofs.Cyclic.{marked_cycles}
use Rattle.gql_graph.proofs.cycles.on_cycles.Goals as goal

pub returns : goal.returns
returns c =
    let g = c.args.graph.now in
    let parts = c.in_ok-parts.parts.items in
    let all : c.loop-node.node ≡ length g = omega arith in
    marked_cycles g parts c.loop-node.marks.items c.in_ok-parts.ensures.parts c.in_ok-parts.ensures.all
    (subst (Told (λ v. shares_part parts v (row g v)) c.loop-node.marks.items) all c.loop-node.invariant)
