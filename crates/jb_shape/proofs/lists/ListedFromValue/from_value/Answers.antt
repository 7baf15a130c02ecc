use Rattle.std.proofs.Common.{ap, refl, sym, ◌∙◌, subst, List, Option, Some, Ok, Err, arith}
use Rattle.std.proofs.lemmas.Result.{err_from_is_err_and}
use Rattle.jb_tree.specs.declared.value.Value.{Value}
use Rattle.jb_shape.specs.Outcome.{Answers, and_then, each}
use Rattle.jb_shape.specs.Scalars.{of_kind}
use Rattle.jb_shape.proofs.Each.{each_more, stops_answer}
use Rattle.jb_shape.proofs.lists.ListedFromValue.from_value.Goals as goal

pub returns-in_err-from_value : goal.returns-in_err-from_value
returns-in_err-from_value g c =
    let p = err_from_is_err_and c.from_residual.result c.from_residual.ensures.1 in
    let refused = c.in_err-from_value.field-0.0 in
    let xs = c.as_slice-value-items.result.now in
    rw (p.1, p.2)
    (subst (λ (found : Option (List Value)). Answers (and_then (of_kind found) (each g.T.FromValue.reading)) (Err refused))
    (ap Some c.as_slice-value-items.ensures ∙ c.in-Some.ensures)
    (stops_answer g.T.FromValue.reading xs xs c.loop-value.value-index c.value-item.result c.loop-value.items refused refl
    (omega arith) c.value-item.is c.loop-value.invariant c.in_err-from_value.ensures))

pub loop-value-preserved : goal.loop-value-preserved
loop-value-preserved g c =
    each_more g.T.FromValue.reading c.as_slice-value-items.result.now c.loop-value.value-index c.value-item.result c.loop-value.items c.in_ok-from_value.field-0
    (omega arith) c.value-item.is c.loop-value.invariant c.in_ok-from_value.ensures
    ∙ ap Ok (sym c.in_ok-push.ensures.pushed)
