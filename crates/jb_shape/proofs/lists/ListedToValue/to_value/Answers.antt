use Rattle.std.proofs.Common.{ap, sym, ◌∙◌, Ok, arith}
use Rattle.std.proofs.lemmas.Result.{err_from_is_err_and}
use Rattle.jb_tree.specs.declared.value.Value.TheVariants as value_variant
use Rattle.jb_shape.specs.Outcome.{each}
use Rattle.jb_shape.proofs.Each.{each_more, stops_answer, stops_further}
use Rattle.jb_shape.proofs.lists.ListedToValue.to_value.Goals as goal

pub returns-in_err-to_value : goal.returns-in_err-to_value
returns-in_err-to_value g c =
    let p = err_from_is_err_and c.from_residual.result c.from_residual.ensures.1 in
    let refused = c.in_err-to_value.field-0.0 in
    let all = c.args.self.now in
    rw (p.1, p.2)
    (stops_further (each g.T.ToValue.shape all) (λ values. Ok (value_variant.Array values)) refused
    (stops_answer g.T.ToValue.shape c.as_slice-item-items.result.now all c.loop-item.item-index c.item-item.result c.loop-item.values refused
    c.as_slice-item-items.ensures (omega arith) c.item-item.is c.loop-item.invariant c.in_err-to_value.ensures))

pub loop-item-preserved : goal.loop-item-preserved
loop-item-preserved g c =
    each_more g.T.ToValue.shape c.as_slice-item-items.result.now c.loop-item.item-index c.item-item.result c.loop-item.values c.in_ok-to_value.field-0
    (omega arith) c.item-item.is c.loop-item.invariant c.in_ok-to_value.ensures
    ∙ ap Ok (sym c.in_ok-push.ensures.pushed)
