use Rattle.std.proofs.Common.{◌<◌, ◌+◌, ◌^◌, length, sym, ◌∙◌, ap, arith, zero-add}
use Rattle.std.specs.Fmt.{decimal}
use Rattle.jb_tree.proofs.Tokens.{item_found, item_missing}
use Rattle.jb_tree.proofs.pointer.item_mut.Goals as goal

pub returns-in-Some : goal.returns-in-Some
returns-in-Some c =
    let items = c.args.items.now in
    let fits : 0 + length items < 2 ^ 64 = omega (arith, c.len.ensures, c.len.type_inv) in
    c.get_mut.ensures.value ∙ sym (item_found c.args.token.now 0 items c.in-Some.place (c.in-Some.ensures.1 ∙ ap decimal (sym (zero-add c.in-Some.place))) (omega (arith, c.in-Some.ensures.0, c.len.ensures)) fits)

pub returns-in-None : goal.returns-in-None
returns-in-None c = sym (item_missing c.args.token.now 0 c.args.items.now (λ i within is. c.in-None.ensures i (omega (arith, c.len.ensures)) (is ∙ ap decimal (zero-add i))))
