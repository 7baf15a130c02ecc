use Rattle.std.proofs.Common.{arith}
use Rattle.std.proofs.lemmas.Grind.{common_steps}
use Rattle.jb_print.proofs.Escapes.{cut_before, cut_after, special-at, flat_map-plain, flat_map-special}
use Rattle.jb_print.proofs.text.write_escaped.Goals as goal

pub range-requires-clause-end_boundary : goal.range-requires-clause-end_boundary
range-requires-clause-end_boundary c = cut_before _ _ c.plain_len-stop.ensures

pub returns-then-stop-rest : goal.returns-then-stop-rest
returns-then-stop-rest c =
    let printed = flat_map-plain _ _ c.plain_len-stop.ensures c.if-stop-rest.true in
    grind (arith, common_steps)

pub write_escape-requires : goal.write_escape-requires
write_escape-requires c = rw c.as_bytes.ensures.value (special-at _ _ c.plain_len-stop.ensures c.if-stop-rest.false)

pub range_from-rest-requires : goal.range_from-rest-requires
range_from-rest-requires c = λ _. cut_after _ _ c.plain_len-stop.ensures c.loop-out.invariant.0 c.if-stop-rest.false

pub loop-out-preserved : goal.loop-out-preserved
loop-out-preserved c =
    let printed = flat_map-special _ _ c.plain_len-stop.ensures c.if-stop-rest.false in
    (c.range_from-rest.utf8, grind (arith, common_steps))
