use Rattle.std.proofs.Common.{ℕ, ap, refl, sym, ◌∙◌, subst, List, Option, Ok, Err, arith}
use Rattle.std.proofs.lemmas.Result.{err_from_is_err_and}
use Rattle.jb_tree.specs.declared.value.Value.{Value}
use Rattle.jb_shape.specs.Outcome.{Answers, and_then, each}
use Rattle.jb_shape.specs.Scalars.{of_kind}
use Rattle.jb_shape.specs.Lists.{read_member}
use Rattle.jb_shape.proofs.Each.{each_more, stops_answer}
use Rattle.jb_shape.proofs.Filling.{pair_at}
use Rattle.jb_shape.proofs.members.read_pairs.Goals as goal

pub returns-in_err-read_member : goal.returns-in_err-read_member
returns-in_err-read_member g c =
    let p = err_from_is_err_and c.from_residual.result c.from_residual.ensures.1 in
    let refused = c.in_err-read_member.field-0.0 in
    let make = read_member g.K.MapKey.key_reading g.V.FromValue.reading in
    let xs = c.in-Some.members.now in
    let is = pair_at xs c.loop-index.index c.key_at.result.now c.value_at.result.now c.key_at.ensures c.value_at.ensures in
    rw (p.1, p.2)
    (subst (λ (found : Option (List (List ℕ × Value))). Answers (and_then (of_kind found) (each make)) (Err refused)) c.in-Some.ensures
    (stops_answer make xs xs c.loop-index.index (c.key_at.result.now, c.value_at.result.now) c.loop-index.pairs refused refl
    (omega arith) is c.loop-index.invariant c.in_err-read_member.ensures))

pub loop-index-preserved : goal.loop-index-preserved
loop-index-preserved g c =
    let xs = c.in-Some.members.now in
    let is = pair_at xs c.loop-index.index c.key_at.result.now c.value_at.result.now c.key_at.ensures c.value_at.ensures in
    each_more (read_member g.K.MapKey.key_reading g.V.FromValue.reading) xs c.loop-index.index (c.key_at.result.now, c.value_at.result.now) c.loop-index.pairs
    c.in_ok-read_member.field-0 (omega arith) is c.loop-index.invariant c.in_ok-read_member.ensures
    ∙ ap Ok (sym c.in_ok-push.ensures.pushed)
