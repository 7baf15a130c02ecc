-- What is left of selections that name no fragment names none.
use Rattle.std.proofs.Common.{rules, ◌≡◌, ℕ, zero, suc, ◌||◌, Bool, true, false, not, List, [], ◌∷◌, ◌++◌, refl, sym, ◌∙◌, subst}
use Rattle.gql_gateway.specs.Concrete.{filled, concrete_at, concrete_within, concrete}
use Rattle.gql_gateway.specs.Pure.{spreadless_at, SpreadlessTo, IsSpreadless}
use Rattle.gql_document_types.specs.Spreadless.{spreads_one, has_spread, HasNoSpread}
use Rattle.gql_document_types.proofs.Variants.{out-field, out-spread, out-inline, each}
use Rattle.gql_document_types.specs.declared.selection.Field.{Field}
use Rattle.gql_document_types.specs.declared.selection.FragmentSpread.{FragmentSpread}
use Rattle.gql_document_types.specs.declared.selection.InlineFragment.{InlineFragment}
use Rattle.gql_document_types.specs.declared.selection.Selection.{Selection, the_lemmas, out-Selection}
use Rattle.gql_document_types.specs.declared.selection.Selection.TheOpen.{Selection-F}
use Rattle.gql_document_types.specs.declared.selection.Selection.TheVariants as selection
use Rattle.gql_collect.specs.Flat.{Shape, when}
use Rattle.gql_collect.specs.Sizes.{size}
use Rattle.gql_exec.specs.Restricted.{is_meta_name}

spreads-spread : (s : FragmentSpread) → spreads_one (selection.FragmentSpread s) ≡ true
spreads-spread s = search (rules, the_lemmas)

spreads-inline : (i : InlineFragment) → spreads_one (selection.InlineFragment i) ≡ has_spread i.selection_set.selections
spreads-inline i = search (rules, the_lemmas)

or-none : (b c : Bool) → b ≡ false → c ≡ false → (b || c) ≡ false
or-none false c is si = si
or-none true c is si = absurd (let e : true ≡ false = is in cc)

or-first : (b c : Bool) → (b || c) ≡ false → b ≡ false
or-first true c is = is
or-first false c is = refl

or-second : (b c : Bool) → (b || c) ≡ false → c ≡ false
or-second true c is = absurd (let e : true ≡ false = is in cc)
or-second false c is = is

none-both : (xs ys : List Selection) → HasNoSpread xs → HasNoSpread ys → HasNoSpread (xs ++ ys)
none-both [] ys one other = other
none-both (x ∷ xs) ys one other =
    or-none (spreads_one x) (has_spread (xs ++ ys)) (or-first (spreads_one x) (has_spread xs) one) (none-both xs ys (or-second (spreads_one x) (has_spread xs) one) other)

one-none : (x : Selection) → spreads_one x ≡ false → HasNoSpread (x ∷ [])
one-none x is = or-none (spreads_one x) false is refl

-- ---- concrete parts

when-none : (b : Bool) (xs : List Selection) → HasNoSpread xs → HasNoSpread (when b xs)
when-none true xs none = none
when-none false xs none = refl

filled-none : (i : InlineFragment) (xs : List Selection) → HasNoSpread xs → HasNoSpread (filled i xs)
filled-none i [] none = refl
filled-none i (x ∷ xs) none =
    let made : InlineFragment = record i { selection_set = record i.selection_set { selections = x ∷ xs } } in
    one-none (selection.InlineFragment made) (spreads-inline made ∙ none)

module _ (n : ℕ) (inside : (ss : List Selection) → HasNoSpread ss → HasNoSpread (concrete_within n ss)) where
  at-none : (s : Selection) → spreads_one s ≡ false → HasNoSpread (concrete_at (concrete_within n) (out-Selection s))
  at-none =
      each (λ s. spreads_one s ≡ false → HasNoSpread (concrete_at (concrete_within n) (out-Selection s)))
      (λ f is. subst (λ (k : Shape). HasNoSpread (concrete_at (concrete_within n) k)) (sym (out-field f))
      (when-none (not (is_meta_name f.name.text)) (selection.Field f ∷ []) (one-none (selection.Field f) is)))
      (λ s is. absurd (let e : true ≡ false = sym (spreads-spread s) ∙ is in cc))
      (λ i is. subst (λ (k : Shape). HasNoSpread (concrete_at (concrete_within n) k)) (sym (out-inline i))
      (filled-none i (concrete_within n i.selection_set.selections) (inside i.selection_set.selections (sym (spreads-inline i) ∙ is))))

  each-none : (ss : List Selection) → HasNoSpread ss → HasNoSpread (concrete_within (suc n) ss)
  each-none [] none = refl
  each-none (s ∷ ss) none =
      none-both (concrete_at (concrete_within n) (out-Selection s)) (concrete_within (suc n) ss) (at-none s (or-first (spreads_one s) (has_spread ss) none))
      (each-none ss (or-second (spreads_one s) (has_spread ss) none))

concrete-within-none : (n : ℕ) (ss : List Selection) → HasNoSpread ss → HasNoSpread (concrete_within n ss)
concrete-within-none zero ss none = refl
concrete-within-none (suc n) ss none = each-none n (concrete-within-none n) ss none

pub concrete-none : (ss : List Selection) → HasNoSpread ss → HasNoSpread (concrete ss)
unfolding concrete
concrete-none ss none = concrete-within-none (suc (size ss)) ss none

-- ---- own sets

module _ (n : ℕ) (inside : (ss : List Selection) → HasNoSpread ss → SpreadlessTo n ss) where
  at-spreadless : (s : Selection) → spreads_one s ≡ false → spreadless_at (SpreadlessTo n) (out-Selection s)
  at-spreadless =
      each (λ s. spreads_one s ≡ false → spreadless_at (SpreadlessTo n) (out-Selection s))
      (λ f is. subst (spreadless_at (SpreadlessTo n)) (sym (out-field f)) tt)
      (λ s is. absurd (let e : true ≡ false = sym (spreads-spread s) ∙ is in cc))
      (λ i is. subst (spreadless_at (SpreadlessTo n)) (sym (out-inline i)) (inside i.selection_set.selections (sym (spreads-inline i) ∙ is)))

  all-spreadless : (ss : List Selection) → HasNoSpread ss → SpreadlessTo (suc n) ss
  all-spreadless [] none = tt
  all-spreadless (s ∷ ss) none =
      (at-spreadless s (or-first (spreads_one s) (has_spread ss) none), all-spreadless ss (or-second (spreads_one s) (has_spread ss) none))

spreadless-to : (n : ℕ) (ss : List Selection) → HasNoSpread ss → SpreadlessTo n ss
spreadless-to zero ss none = tt
spreadless-to (suc n) ss none = all-spreadless n (spreadless-to n) ss none

pub spreadless : (ss : List Selection) → HasNoSpread ss → IsSpreadless ss
spreadless ss none n = spreadless-to n ss none
