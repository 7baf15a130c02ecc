use Rattle.std.proofs.Common.{arith, ◌≡◌, ◌++◌, ◌∙◌, ap, subst, true, false, length, replicate, refl}
use Rattle.std.proofs.lemmas.Result.{IfOk-weaker, on_ok_weaker}
use Rattle.gql_collect.specs.Collected.{setting, sets_of}
use Rattle.gql_collect.specs.Flat.{flat_sets}
use Rattle.gql_collect.specs.Same.{SameFirst}
use Rattle.gql_collect.specs.Sizes.{sets_size, outer_size}
use Rattle.gql_collect.specs.Standing.{NoneMoreOften, fields_in_all, fields_in_fragments}
use Rattle.gql_collect.specs.Walk.{fields_of}
use Rattle.gql_collect.specs.bridge.Walk.{WalksAll, lists_of}
use Rattle.gql_collect.proofs.Enough.{walk-same}
use Rattle.gql_collect.proofs.Once.{walk-once}
use Rattle.gql_collect.proofs.collecting.selected_fields.Goals as goal

pub returns-clause-fields : goal.returns-clause-fields
returns-clause-fields g c =
    let s = setting c.args.document.now.fragments c.args.schema.now c.args.object_type.now c.args.variables.now in
    let start : c.as_mut_slice.result.now ≡ replicate (length c.args.document.now.fragments) false =
    c.as_mut_slice.ensures.value ∙ c.in_ok-marks.ensures.items_if_clones_equal (elim [ true ↦ λ e. e | false ↦ λ e. refl ]) ∙ ap (λ n. replicate n false) c.len.ensures.value in
    let sets : lists_of c.in_ok-pending.pending ≡ sets_of c.args.pieces.now = c.in_ok-pending.ensures in
    IfOk-weaker c.collect.result (λ fields. WalksAll s c.as_mut_slice.result.now (lists_of c.in_ok-pending.pending) (fields_of fields))
    (λ fields. SameFirst (fields_of fields) (flat_sets s (sets_of c.args.pieces.now)))
    (λ fields walks. walk-same s c.as_mut_slice.result.now (sets_of c.args.pieces.now) (fields_of fields) c.requires start
    (subst (λ l. WalksAll s c.as_mut_slice.result.now l (fields_of fields)) sets walks))
    c.collect.ensures.fields

pub returns-clause-once : goal.returns-clause-once
returns-clause-once g c =
    let s = setting c.args.document.now.fragments c.args.schema.now c.args.object_type.now c.args.variables.now in
    let sets : lists_of c.in_ok-pending.pending ≡ sets_of c.args.pieces.now = c.in_ok-pending.ensures in
    IfOk-weaker c.collect.result (λ fields. WalksAll s c.as_mut_slice.result.now (lists_of c.in_ok-pending.pending) (fields_of fields))
    (λ fields. NoneMoreOften (fields_of fields) (fields_in_all (sets_of c.args.pieces.now) ++ fields_in_fragments s.fragments))
    (λ fields walks. walk-once s c.as_mut_slice.result.now (sets_of c.args.pieces.now) (fields_of fields)
    (subst (λ l. WalksAll s c.as_mut_slice.result.now l (fields_of fields)) sets walks))
    c.collect.ensures.fields

pub returns-clause-looks : goal.returns-clause-looks
returns-clause-looks g c = omega (arith, c.collect.ensures.looks, ap sets_size c.in_ok-pending.ensures)

pub returns-clause-counted : goal.returns-clause-counted
returns-clause-counted g c =
    on_ok_weaker c.collect.result (λ least. omega (arith, least, ap outer_size c.in_ok-pending.ensures)) c.collect.ensures.counted
