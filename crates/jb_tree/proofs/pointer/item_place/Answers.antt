use Rattle.std.proofs.Common.{◌≡◌, Ok, sym, ◌∙◌, ap, arith, true≢false}
use Rattle.std.proofs.lemmas.Fmt.{parse-decimal}
use Rattle.std.proofs.lemmas.Slice.Eq.{bytes_eq-Decides}
use Rattle.std.specs.Fmt.{decimal}
use Rattle.jb_tree.proofs.pointer.item_place.Goals as goal
use Rattle.jb_tree.proofs.pointer.item_place.Goals.{else-place-len-via-then-place-len+else-eq, else-place-len-via-else-place-len}

pub returns-in_default : goal.returns-in_default
returns-in_default c i below is =
    let read : c.parse.result ≡ Ok i = parse-decimal 64 i c.args.token.now c.parse.result (omega arith) (omega arith) is c.parse.ensures.value.0 in
    c.in_default.not-Ok i read

pub returns-else-place-len : goal.returns-else-place-len
returns-else-place-len c i below is =
    let read : c.parse.result ≡ Ok i = parse-decimal 64 i c.args.token.now c.parse.result (omega arith) (omega arith) is c.parse.ensures.value.0 in
    let was : c.parse.result ≡ Ok c.in-Ok.place = c.in-Ok.is in
    let same : c.in-Ok.place ≡ i = cc in
    elim c.else-place-len.branch [
      | else-place-len-via-then-place-len+else-eq w ↦ true≢false (sym ((bytes_eq-Decides w.format.result.now c.args.token.now).1 (w.format.ensures.text ∙ ap decimal same ∙ sym is)) ∙ sym w.eq.ensures ∙ w.if-eq.false)
      | else-place-len-via-else-place-len w ↦ omega (arith, same, w.if-place-len.false)
    ]
