use Rattle.std.proofs.Common.{◌<◌, ◌+◌, ◌^◌, length, sym, ◌∙◌, ap, arith, zero-add}
use Rattle.std.specs.Str.{bytes_eq}
use Rattle.std.specs.Fmt.{decimal}
use Rattle.indexmap.proofs.MapLemmas.{Found-position, Missing-position}
use Rattle.jb_tree.specs.Pointer.{child, decoded}
use Rattle.jb_tree.proofs.Levels.{child_array, child_object}
use Rattle.jb_tree.proofs.Tokens.{item_found, item_missing}
use Rattle.jb_tree.proofs.pointer.child.Goals as goal

pub returns-in-Some : goal.returns-in-Some
returns-in-Some c =
    let items = c.in-Array.items in
    let fits : 0 + length items < 2 ^ 64 = omega (arith, c.len.ensures, c.len.type_inv) in
    c.get.ensures ∙ sym (item_found c.args.token.now 0 items c.in-Some.place (c.in-Some.ensures.1 ∙ ap decimal (sym (zero-add c.in-Some.place))) (omega (arith, c.in-Some.ensures.0, c.len.ensures)) fits)
    ∙ sym (child_array c.args.token.now items) ∙ ap (child c.args.token.now) (sym c.in-Array.is)

pub returns-in-None : goal.returns-in-None
returns-in-None c =
    let items = c.in-Array.items in
    sym (item_missing c.args.token.now 0 items (λ i within is. c.in-None.ensures i (omega (arith, c.len.ensures)) (is ∙ ap decimal (zero-add i))))
    ∙ sym (child_array c.args.token.now items) ∙ ap (child c.args.token.now) (sym c.in-Array.is)

pub returns-in-Some-member_place : goal.returns-in-Some-member_place
returns-in-Some-member_place c =
    sym c.value_at.ensures ∙ sym (Found-position (bytes_eq (decoded c.args.token.now)) c.in-Object.members c.in-Some-member_place.place (sym c.in-Some-member_place.ensures)).value
    ∙ sym (child_object c.args.token.now c.in-Object.members) ∙ ap (child c.args.token.now) (sym c.in-Object.is)

pub returns-in-None-member_place : goal.returns-in-None-member_place
returns-in-None-member_place c =
    sym (Missing-position (bytes_eq (decoded c.args.token.now)) c.in-Object.members (sym c.in-None-member_place.ensures)).value ∙ sym (child_object c.args.token.now c.in-Object.members) ∙ ap (child c.args.token.now) (sym c.in-Object.is)
