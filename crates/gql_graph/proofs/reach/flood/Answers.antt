use Rattle.std.proofs.Common.{◌≡◌, ◌<◌, length, get_or, ap, ◌∙◌, arith}
use Rattle.std.proofs.lemmas.Grind.{get_or_default_zero}
use Rattle.gql_graph.specs.bridge.Flooding.{all_queued}
use Rattle.gql_graph.specs.Graph.{row}
use Rattle.gql_graph.proofs.Flooded.{first_turn, next_turn, flooded}
use Rattle.gql_graph.proofs.reach.flood.Goals as goal

pub loop-next-init : goal.loop-next-init
loop-next-init c =
    let old = c.args.states.now in
    let starts = c.args.starts.now in
    first_turn c.args.graph.now old starts c.args.from c.args.to c.requires c.visit_all.new.states c.visit_all.new.queue.items c.in_ok-visit_all.ensures.states
    (c.in_ok-visit_all.ensures.queue ∙ ap (λ q. all_queued c.args.from c.args.to old q starts) c.new-queue.ensures.items)

pub loop-next-preserved : goal.loop-next-preserved
loop-next-preserved c =
    let queue = c.loop-next.queue.items in
    let next = c.loop-next.next in
    let within : next < length queue = omega arith in
    let node : c.index-node.result.now ≡ get_or queue next 0 = c.index-node.ensures ∙ get_or_default_zero queue next c.index-node.result.now within in
    next_turn c.args.graph.now c.args.states.now c.args.starts.now c.args.from c.args.to c.requires c.loop-next.states queue c.targets.result.now c.visit_all-in-loop-next.new.states
    c.visit_all-in-loop-next.new.queue.items next c.loop-next.invariant within (c.targets.ensures ∙ ap (row c.args.graph.now) node) c.in_ok-visit_all-2.ensures.states c.in_ok-visit_all-2.ensures.queue

pub returns : goal.returns
returns c =
    flooded c.args.graph.now c.args.states.now c.args.starts.now c.args.from c.args.to c.requires c.loop-next.states c.loop-next.queue.items c.loop-next.next (omega arith) c.loop-next.invariant
