use Rattle.std.proofs.Common.{rules, ◌≡◌, ◌+◌, length, drop, ◌*◌, ◌<◌, max, set, get_or, slice_get, position, Some, None, MatchResult, refl, sym, ap, ◌∙◌, subst, arith}
use Rattle.std.proofs.lemmas.Option.{slice_get_read}
use Rattle.std.proofs.lemmas.Result.{MatchResult-weaker}
use Rattle.gql_document_types.specs.RootFields.{fragment_name}
use Rattle.gql_schema_types.specs.Entries.{is_called}
use Rattle.gql_collect.specs.Check.{total}
use Rattle.gql_collect.specs.bridge.Check.{unentered}
use Rattle.gql_collect.specs.bridge.Checked.{AcceptedOne, RefusedOne}
use Rattle.gql_collect.specs.Nested.{nothing}
use Rattle.gql_collect.specs.View.{weight_of, nested, one_of, spread_of, number_of, fragments_nested, then_more}
use Rattle.gql_collect.specs.bridge.View.{field_of}
use Rattle.gql_collect.proofs.DepthSteps.{IsCheckedSoFar}
use Rattle.gql_collect.proofs.DepthCalls.{item-less, set-more, set-refused, set-all, fragment-less, fragment-accepted, fragment-refused, from_err, none_from, memo-is, field-stops, field-goes, field-fails, inline-goes, inline-fails, undefined-goes, again-goes, again-stops}
use Rattle.gql_collect.proofs.depth.DepthCheck.+depth.Goals as goal

pub field-returns-then-longer-ge-TOO_MANY : goal.field-returns-then-longer-ge-TOO_MANY
field-returns-then-longer-ge-TOO_MANY g t c =
    let all = c.args.self.now.fragments.now in
    let counted = c.weight-counted.ensures ∙ ap (λ n. weight_of n) c.as_str.ensures.text in
    subst (λ p. RefusedOne (fragments_nested all) c.args.chain (field_of all c.args.field.now) c.args.memo.now c.args.steps.now p c.tick.new.self) (sym c.location.ensures)
    (field-stops all c.args.chain c.args.field.now c.args.memo.now c.args.steps.now c.tick.new.self c.weight-counted.result c.tick.ensures counted c.if-longer-ge-TOO_MANY.true)

pub field-returns-in_err-below : goal.field-returns-in_err-below
field-returns-in_err-below g t c =
    let all = c.args.self.now.fragments.now in
    let counted = c.weight-counted.ensures ∙ ap (λ n. weight_of n) c.as_str.ensures.text in
    from_err c.from_residual.result c.in_err-below.field-0.0 _ _ c.from_residual.ensures.1
    (field-fails all c.args.chain c.args.field.now c.args.memo.now c.args.steps.now c.tick.new.self c.weight-counted.result c.tick.ensures counted
    c.args.field.now.selection_set.selections c.in_err-below.field-0.0 c.selection_set.new.steps refl c.if-longer-ge-TOO_MANY.false c.in_err-below.ensures)

pub field-returns : goal.field-returns
field-returns g t c =
    let all = c.args.self.now.fragments.now in
    let counted = c.weight-counted.ensures ∙ ap (λ n. weight_of n) c.as_str.ensures.text in
    field-goes all c.args.chain c.args.field.now c.args.memo.now c.args.steps.now c.tick.new.self c.weight-counted.result c.tick.ensures counted
    c.args.field.now.selection_set.selections c.in_ok-below.below c.selection_set.new.memo c.selection_set.new.steps refl c.if-longer-ge-TOO_MANY.false c.in_ok-below.ensures

pub inline-returns : goal.inline-returns
inline-returns g t c =
    let all = c.args.self.now.fragments.now in
    let inside = c.args.fragment.now.selection_set.selections in
    MatchResult-weaker c.selection_set.result c.selection_set.ensures
    (λ d found. inline-goes all c.args.chain c.args.fragment.now inside c.args.memo.now c.args.steps.now c.tick.new.self refl c.tick.ensures d c.selection_set.new.memo c.selection_set.new.steps found)
    (λ at found. inline-fails all c.args.chain c.args.fragment.now inside c.args.memo.now c.args.steps.now c.tick.new.self refl c.tick.ensures at c.selection_set.new.steps found)

pub selection_set-one-requires : goal.selection_set-one-requires
selection_set-one-requires g t c κs within =
    let all = c.args.self.now.fragments.now in
    let table = fragments_nested all in
    let smaller : 4 * (total (then_more (one_of all c.selection-item.result) nothing) + unentered table c.loop-selection.memo) + 2 < 4 * (total (nested all c.args.selections.now) + unentered table c.args.memo.now) + 3 =
    item-less all c.args.selections.now c.as_slice-selection-items.result.now c.loop-selection.selection-index c.selection-item.result _ _ c.as_slice-selection-items.ensures c.loop-selection-test.true c.selection-item.is c.loop-selection.invariant.fewer in
    search rules

pub selection_set-returns-in_err-below : goal.selection_set-returns-in_err-below
selection_set-returns-in_err-below g t c =
    from_err c.from_residual.result c.in_err-below.field-0.0 _ _ c.from_residual.ensures.1
    (set-refused c.args.self.now.fragments.now c.args.chain c.args.selections.now c.as_slice-selection-items.result.now c.loop-selection.selection-index _ _ _ _ _ c.loop-selection.invariant
    c.selection-item.result c.in_err-below.field-0.0 c.one.new.steps c.loop-selection-test.true c.selection-item.is c.in_err-below.ensures)

pub selection_set-loop-selection-preserved : goal.selection_set-loop-selection-preserved
selection_set-loop-selection-preserved g t c =
    let all = c.args.self.now.fragments.now in
    let is : max c.loop-selection.depth c.in_ok-below.below ≡ c.max-depth.result = search rules in
    subst (λ d. IsCheckedSoFar (fragments_nested all) c.args.chain (nested all c.args.selections.now) c.args.memo.now c.args.steps.now
    (nested all (drop (c.loop-selection.selection-index + 1) c.as_slice-selection-items.result.now)) d c.one.new.memo c.one.new.steps) is
    (set-more all c.args.chain c.args.selections.now c.as_slice-selection-items.result.now c.loop-selection.selection-index _ _ _ _ _ c.loop-selection.invariant
    c.selection-item.result c.in_ok-below.below c.one.new.memo c.one.new.steps c.loop-selection-test.true c.selection-item.is c.in_ok-below.ensures)

pub selection_set-returns : goal.selection_set-returns
selection_set-returns g t c =
    set-all c.args.self.now.fragments.now c.args.chain c.args.selections.now c.as_slice-selection-items.result.now c.loop-selection.selection-index _ _ _ _ _ c.loop-selection.invariant c.loop-selection-test.false

pub spread-returns-in-Some : goal.spread-returns-in-Some
spread-returns-in-Some g t c =
    let all = c.args.self.now.fragments.now in
    let name = c.args.spread.now.fragment_name in
    let place = c.args.spread.now.location in
    let is : Some c.in-Some.number ≡ number_of all name = sym c.in-Some.is ∙ c.find.ensures ∙ ap (λ n. position (is_called fragment_name n) all) c.as_str.ensures.text in
    subst (λ o. MatchResult c.fragment.result
    (λ depth. AcceptedOne (fragments_nested all) c.args.chain (spread_of o place) c.args.memo.now c.args.steps.now depth c.fragment.new.memo c.fragment.new.steps)
    (λ at. RefusedOne (fragments_nested all) c.args.chain (spread_of o place) c.args.memo.now c.args.steps.now at c.fragment.new.steps)) is c.fragment.ensures

pub spread-returns-in-None : goal.spread-returns-in-None
spread-returns-in-None g t c =
    let all = c.args.self.now.fragments.now in
    let name = c.args.spread.now.fragment_name in
    let place = c.args.spread.now.location in
    let is : None ≡ number_of all name = sym c.in-None.is ∙ c.find.ensures ∙ ap (λ n. position (is_called fragment_name n) all) c.as_str.ensures.text in
    subst (λ o. AcceptedOne (fragments_nested all) c.args.chain (spread_of o place) c.args.memo.now c.args.steps.now 0 c.args.memo.now c.tick.new.self) is
    (undefined-goes (fragments_nested all) c.args.chain c.args.memo.now c.args.steps.now c.tick.new.self c.requires.low c.tick.ensures)

pub fragment-returns-then-depth-chain : goal.fragment-returns-then-depth-chain
fragment-returns-then-depth-chain g t c =
    again-stops (fragments_nested c.args.self.now.fragments.now) c.args.chain c.args.number c.args.place c.in-Some.depth c.args.memo.now c.args.steps.now c.tick.new.self
    (search rules) c.in-Some.is c.requires.low c.if-depth-chain.true c.tick.ensures

pub fragment-returns-in-Some : goal.fragment-returns-in-Some
fragment-returns-in-Some g t c =
    again-goes (fragments_nested c.args.self.now.fragments.now) c.args.chain c.args.number c.args.place c.in-Some.depth c.args.memo.now c.args.steps.now c.tick.new.self
    (search rules) c.in-Some.is c.requires.low c.if-depth-chain.false c.tick.ensures

pub fragment-selection_set-requires : goal.fragment-selection_set-requires
fragment-selection_set-requires g t c κs within =
    let all = c.args.self.now.fragments.now in
    let table = fragments_nested all in
    let f = c.args.number in
    let it = c.index-as_slice-number.result in
    let slice = (get_or c.as_slice.result.now f it).selection_set.selections in
    let fresh : slice_get c.args.memo.now f ≡ Some None = memo-is c.args.memo.now f None (omega (arith, c.requires.within, c.requires.sized)) (none_from (get_or c.args.memo.now f None) c.in_default.not-Some) in
    let there = subst (λ l. slice_get l f ≡ Some it) c.as_slice.ensures.entries
    (slice_get_read c.as_slice.result.now (length c.as_slice.result.now) f it refl (omega (arith, c.requires.within, ap length c.as_slice.ensures.entries)) c.index-as_slice-number.is) in
    let smaller : 4 * (total (nested all slice) + unentered table (set c.args.memo.now f (Some 0))) + 3 < 4 * (1 + unentered table c.args.memo.now) =
    fragment-less all c.args.chain f it c.args.memo.now there c.requires.sized slice (ap (λ x. x.selection_set.selections) (sym c.index-as_slice-number.is)) fresh in
    search rules

pub fragment-returns-in_err-depth : goal.fragment-returns-in_err-depth
fragment-returns-in_err-depth g t c =
    let all = c.args.self.now.fragments.now in
    let f = c.args.number in
    let it = c.index-as_slice-number.result in
    let slice = (get_or c.as_slice.result.now f it).selection_set.selections in
    let fresh : slice_get c.args.memo.now f ≡ Some None = memo-is c.args.memo.now f None (omega (arith, c.requires.within, c.requires.sized)) (none_from (get_or c.args.memo.now f None) c.in_default.not-Some) in
    let there = subst (λ l. slice_get l f ≡ Some it) c.as_slice.ensures.entries
    (slice_get_read c.as_slice.result.now (length c.as_slice.result.now) f it refl (omega (arith, c.requires.within, ap length c.as_slice.ensures.entries)) c.index-as_slice-number.is) in
    from_err c.from_residual.result c.in_err-depth.field-0.0 _ _ c.from_residual.ensures.1
    (fragment-refused all c.args.chain f it c.args.memo.now there c.args.place slice c.args.steps.now c.tick.new.self c.in_err-depth.field-0.0 c.selection_set.new.steps
    (ap (λ x. x.selection_set.selections) (sym c.index-as_slice-number.is)) fresh c.tick.ensures c.in_err-depth.ensures)

pub fragment-returns : goal.fragment-returns
fragment-returns g t c =
    let all = c.args.self.now.fragments.now in
    let f = c.args.number in
    let it = c.index-as_slice-number.result in
    let slice = (get_or c.as_slice.result.now f it).selection_set.selections in
    let fresh : slice_get c.args.memo.now f ≡ Some None = memo-is c.args.memo.now f None (omega (arith, c.requires.within, c.requires.sized)) (none_from (get_or c.args.memo.now f None) c.in_default.not-Some) in
    let there = subst (λ l. slice_get l f ≡ Some it) c.as_slice.ensures.entries
    (slice_get_read c.as_slice.result.now (length c.as_slice.result.now) f it refl (omega (arith, c.requires.within, ap length c.as_slice.ensures.entries)) c.index-as_slice-number.is) in
    fragment-accepted all c.args.chain f it c.args.memo.now there c.args.place slice c.args.steps.now c.tick.new.self c.in_ok-depth.depth c.selection_set.new.memo c.selection_set.new.steps
    (ap (λ x. x.selection_set.selections) (sym c.index-as_slice-number.is)) fresh c.tick.ensures c.in_ok-depth.ensures
