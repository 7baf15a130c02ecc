use Rattle.std.proofs.Common.{◌≡◌, true, length, replicate, ap, ◌∙◌}
use Rattle.std.proofs.lemmas.List.{length-replicate}
use Rattle.gql_graph.specs.bridge.Chains.{next_mark}
use Rattle.gql_graph.specs.bridge.Cycles.{Told}
use Rattle.gql_graph.proofs.Chained.{no_names, more_names}
use Rattle.gql_graph.proofs.chains.chained.Goals as goal

pub loop-round-init : goal.loop-round-init
loop-round-init c =
    let g = c.args.graph.now in
    let made : c.in_ok-marks.marks.items ≡ replicate (length g) true = c.in_ok-marks.ensures.items_if_clones_equal (λ y is. is) ∙ ap (λ n. replicate n true) c.len.ensures in
    record { count = ap length made ∙ length-replicate (length g) true; marks = no_names g c.args.named c.in_ok-marks.marks.items made }

pub loop-round-preserved : goal.loop-round-preserved
loop-round-preserved c =
    let g = c.args.graph.now in
    let told : Told (next_mark g c.args.named c.loop-round.marks.items) c.in_ok-marks-2.marks.items (length g) = c.in_ok-marks-2.ensures in
    record { count = told.as_many; marks = more_names g c.args.named c.loop-round._round c.loop-round.marks.items c.in_ok-marks-2.marks.items told c.loop-round.invariant.marks }
