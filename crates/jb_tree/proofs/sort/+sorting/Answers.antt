use Rattle.std.proofs.Common.{◌≡◌, ℕ, suc, ◌+◌, ◌<◌, ◌≤◌, max, zero, List, [], ◌∷◌, map, length, slice_get, slice_set, Some, None, sym, ap, ◌∙◌, arith, rules}
use denote.Param.Weighed.{most}
use Rattle.std.specs.Option.{option_copied_mut}
use Rattle.std.specs.Map.{values_of}
use Rattle.std_collections.specs.Layout.Former.{on_value}
use Rattle.indexmap.specs.IndexMap.{set_value_at}
use Rattle.jb_map.specs.ByKey.{by_key}
use Rattle.jb_tree.specs.Same.{sorted}
use Rattle.jb_tree.specs.declared.value.Value.{Value, Array, Object, size-Value, the_lemmas}
use Rattle.jb_tree.proofs.Sorting.{done_to, done_to-all, done_to-get, done_to-set, kept-set, values-get, pairs-set, kept-pairs, by_key-again, get_within}
use Rattle.jb_tree.proofs.sort.+sorting.Goals as goal
use Rattle.jb_tree.proofs.sort.+sorting.Goals.{sort_items-in-Some+in_ok-sort_value, sort_items-in_default}

pub sort_items-returns-in_err-sort_value-clause-kept : goal.sort_items-returns-in_err-sort_value-clause-kept
sort_items-returns-in_err-sort_value-clause-kept t c =
    kept-set sorted c.loop-index.index c.loop-index.items c.in-Some.item.now c.sort_value.new.value (sym c.in-Some.ensures.value) c.sort_value.ensures.kept ∙ c.loop-index.invariant.1

pub sort_items-loop-index-preserved : goal.sort_items-loop-index-preserved
sort_items-loop-index-preserved t c =
    let old = c.args.items.now in
    let i = c.loop-index.index in
    let inv = c.loop-index.invariant in
    let next : suc i ≡ i + 1 = omega arith in
    elim c.match-get_mut.branch [
      | sort_items-in-Some+in_ok-sort_value w ↦
          let at = sym (done_to-get sorted i old) ∙ ap (λ l. slice_get l i) (sym inv.0) ∙ sym w.in-Some.ensures.value in (
            w.items-is ∙ ap (λ l. slice_set l i w.sort_value.new.value) inv.0 ∙ done_to-set sorted i old w.in-Some.item.now w.sort_value.new.value at w.in_ok-sort_value.ensures.sorted ∙ ap (λ n. done_to sorted n old) next,
            ap (map sorted) w.items-is ∙ kept-set sorted i c.loop-index.items w.in-Some.item.now w.sort_value.new.value (sym w.in-Some.ensures.value) w.sort_value.ensures.kept ∙ inv.1,
          )
      | sort_items-in_default w ↦
          let none : slice_get old i ≡ None = sym (done_to-get sorted i old) ∙ ap (λ l. slice_get l i) (sym inv.0) ∙ sym (c.get_mut.ensures.value) ∙ ap option_copied_mut w.in_default.is in
          absurd (get_within old i (omega (arith, c.len-index-end.ensures, c.loop-index-test.true)) none)
    ]

pub sort_items-returns-clause-sorted : goal.sort_items-returns-clause-sorted
sort_items-returns-clause-sorted t c =
    let old = c.args.items.now in
    let all : c.loop-index.index ≡ length old = omega (arith, c.len-index-end.ensures, c.loop-index-test.false, c.loop-index.auto.index-end) in
    c.loop-index.invariant.0 ∙ ap (λ n. done_to sorted n old) all ∙ done_to-all sorted old

within_most : (f : Value → ℕ) (xs : List Value) (i : ℕ) (x : Value) → slice_get xs i ≡ Some x → f x ≤ most f xs
within_most f [] i x at = cc
within_most f (y ∷ ys) zero x at = let same : f x ≡ f y = ap f (cc) in omega (arith, same)
within_most f (y ∷ ys) (suc i) x at = omega (arith, within_most f ys i x at)

-- what is inside is smaller
size_within : (es : List (List ℕ × Value)) (i : ℕ) (x : Value) → slice_get (values_of es) i ≡ Some x → size-Value x < size-Value (Object es)
size_within es i x at =
    let whole : size-Value (Object es) ≡ max (most size-Value (values_of es)) 0 + 1 = search (rules, the_lemmas) in
    omega (arith, whole, within_most size-Value (values_of es) i x at)

size_inside : (es : List Value) (i : ℕ) (x : Value) → slice_get es i ≡ Some x → size-Value x < size-Value (Array es)
size_inside es i x at =
    let whole : size-Value (Array es) ≡ most size-Value es + 1 = search (rules, the_lemmas) in
    omega (arith, whole, within_most size-Value es i x at)

pub sort_items-sort_value-requires : goal.sort_items-sort_value-requires
sort_items-sort_value-requires t c =
    let old = c.args.items.now in
    let i = c.loop-index.index in
    let at : slice_get old i ≡ Some c.in-Some.item.now = sym (done_to-get sorted i old) ∙ ap (λ l. slice_get l i) (sym c.loop-index.invariant.0) ∙ sym c.in-Some.ensures.value in
    let low : size-Value c.in-Some.item.now ≤ most size-Value old = within_most size-Value old i c.in-Some.item.now at in
    search (rules, the_lemmas, c.decreases, low)

pub sort_members-sort_value-requires : goal.sort_members-sort_value-requires
sort_members-sort_value-requires t c =
    let old = c.args.members.now in
    let i = c.loop-index.index in
    let at : slice_get (values_of old) i ≡ Some c.value_mut_at-member.result.now = sym (values-get sorted i old) ∙ ap (λ es. slice_get (values_of es) i) (sym c.loop-index.invariant.0) ∙ c.value_mut_at-member.ensures.value in
    let low : size-Value c.value_mut_at-member.result.now ≤ most size-Value (values_of old) = within_most size-Value (values_of old) i c.value_mut_at-member.result.now at in
    search (rules, the_lemmas, c.decreases, low)

pub sort_members-returns-in_err-sort_value-clause-kept : goal.sort_members-returns-in_err-sort_value-clause-kept
sort_members-returns-in_err-sort_value-clause-kept t c =
    ap by_key (kept-pairs sorted c.loop-index.index c.loop-index.members c.value_mut_at-member.result.now c.sort_value.new.value c.value_mut_at-member.ensures.value c.sort_value.ensures.kept ∙ c.loop-index.invariant.1)

pub sort_members-loop-index-preserved : goal.sort_members-loop-index-preserved
sort_members-loop-index-preserved t c =
    let old = c.args.members.now in
    let i = c.loop-index.index in
    let inv = c.loop-index.invariant in
    let x = c.value_mut_at-member.result.now in
    let y = c.sort_value.new.value in
    let next : suc i ≡ i + 1 = omega arith in
    let at = sym (values-get sorted i old) ∙ ap (λ es. slice_get (values_of es) i) (sym inv.0) ∙ c.value_mut_at-member.ensures.value in (
      ap (λ es. set_value_at es i y) inv.0 ∙ pairs-set sorted i old x y at c.in_ok-sort_value.ensures.sorted ∙ ap (λ n. done_to (on_value sorted) n old) next,
      kept-pairs sorted i c.loop-index.members x y c.value_mut_at-member.ensures.value c.sort_value.ensures.kept ∙ inv.1,
    )

pub sort_members-returns-clause-sorted : goal.sort_members-returns-clause-sorted
sort_members-returns-clause-sorted t c =
    let old = c.args.members.now in
    let all : c.loop-index.index ≡ length old = omega (arith, c.len-index-end.ensures.value, c.loop-index-test.false, c.loop-index.auto.index-end) in
    c.in_ok-sort_keys.ensures.sorted ∙ ap by_key (c.loop-index.invariant.0 ∙ ap (λ n. done_to (on_value sorted) n old) all ∙ done_to-all (on_value sorted) old)

pub sort_members-returns-clause-kept : goal.sort_members-returns-clause-kept
sort_members-returns-clause-kept t c =
    ap (λ es. by_key (map (on_value sorted) es)) c.in_ok-sort_keys.ensures.sorted ∙ by_key-again sorted c.loop-index.members ∙ ap by_key c.loop-index.invariant.1

pub sort_members-returns-in_err-sort_keys-clause-kept : goal.sort_members-returns-in_err-sort_keys-clause-kept
sort_members-returns-in_err-sort_keys-clause-kept t c =
    ap (λ es. by_key (map (on_value sorted) es)) c.in_err-sort_keys.ensures.refused ∙ ap by_key c.loop-index.invariant.1
