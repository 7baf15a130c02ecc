use Rattle.std.proofs.Common.{ap, sym, ◌∙◌, [], ◌∷◌, ◌++◌, Ok, arith}
use Rattle.std.specs.Str.{bytes_eq}
use Rattle.std.proofs.lemmas.Result.{err_from_is_err_and}
use Rattle.indexmap.specs.IndexMap.{insert_entry, insert_all}
use Rattle.jb_tree.specs.declared.value.Value.TheVariants as value_variant
use Rattle.jb_shape.specs.Outcome.{each}
use Rattle.jb_shape.specs.Lists.{member_value}
use Rattle.jb_shape.proofs.Each.{each_more, stops_answer, stops_further}
use Rattle.jb_shape.proofs.Filling.{insert_all_push}
use Rattle.jb_shape.proofs.members.MembersToValue.to_value.Goals as goal

pub returns-in_err-key : goal.returns-in_err-key
returns-in_err-key g c =
    let p = err_from_is_err_and c.from_residual.result c.from_residual.ensures.1 in
    let refused = c.in_err-key.field-0.0 in
    let make = member_value g.K.MapKey.key_text g.V.ToValue.shape in
    let all = c.args.self.now.pairs in
    rw (p.1, p.2)
    (stops_further (each make all) (λ pairs. Ok (value_variant.Object (insert_all bytes_eq [] pairs))) refused
    (stops_answer make c.as_slice-pair-items.result.now all c.loop-pair.pair-index c.pair-item.result c.loop-pair.invariant.0 refused
    c.as_slice-pair-items.ensures (omega arith) c.pair-item.is c.loop-pair.invariant.1 c.in_err-key.ensures))

pub loop-pair-preserved : goal.loop-pair-preserved
loop-pair-preserved g c =
    let texts = c.loop-pair.invariant.0 in
    let key = c.in_ok-key.key in
    let value = c.in_ok-key.value in (
      texts ++ (key, value) ∷ [],
      each_more (member_value g.K.MapKey.key_text g.V.ToValue.shape) c.as_slice-pair-items.result.now c.loop-pair.pair-index c.pair-item.result texts (key, value)
          (omega arith) c.pair-item.is c.loop-pair.invariant.1 c.in_ok-key.ensures,
      c.in_ok-put.ensures ∙ ap (λ m. insert_entry bytes_eq m key value) c.loop-pair.invariant.2 ∙ sym (insert_all_push [] texts key value),
    )
