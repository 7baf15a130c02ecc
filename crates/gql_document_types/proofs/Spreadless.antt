-- An expansion names no fragment.
use Rattle.std.proofs.Common.{rules, arith, ◌≡◌, ℕ, zero, suc, ◌+◌, ◌≤◌, ◌||◌, Bool, true, false, not, List, [], ◌∷◌, ◌++◌, map, flat_map, length, Option, Some, None, refl, sym, ap, ap₂, ◌∙◌, subst}
use Rattle.std.specs.Option.{option_map_or}
use Rattle.gql_document_types.specs.Spreadless.{is_any, spreads_one, has_spread, HasNoSpread}
use Rattle.gql_document_types.proofs.Variants.{out-field, out-spread, out-inline, each}
use Rattle.gql_document_types.proofs.Views.{field_with, inline_with, expand-field, expand-spread, expand-inline, count-field, count-spread, count-inline}
use Rattle.gql_document_types.specs.Count.{count, count_one}
use Rattle.gql_document_types.specs.Expanded.{in_place, spread_step, expand_one, expand_all, contents_within, contents, expanded}
use Rattle.gql_document_types.specs.RootFields.{fragment_name}
use Rattle.gql_document_types.specs.declared.fragment.Fragment.{Fragment}
use Rattle.gql_document_types.specs.declared.selection.Field.{Field}
use Rattle.gql_document_types.specs.declared.selection.FragmentSpread.{FragmentSpread}
use Rattle.gql_document_types.specs.declared.selection.InlineFragment.{InlineFragment}
use Rattle.gql_document_types.specs.declared.selection.Selection.{Selection, the_lemmas, out-Selection}
use Rattle.gql_document_types.specs.declared.selection.Selection.TheOpen.{Selection-F}
use Rattle.gql_document_types.specs.declared.selection.Selection.TheVariants as selection
use Rattle.gql_schema_types.specs.Entries.{entry}

spreads-field : (f : Field) → spreads_one (selection.Field f) ≡ has_spread f.selection_set.selections
spreads-field f = search (rules, the_lemmas)

spreads-inline : (i : InlineFragment) → spreads_one (selection.InlineFragment i) ≡ has_spread i.selection_set.selections
spreads-inline i = search (rules, the_lemmas)

or-none : (b c : Bool) → b ≡ false → c ≡ false → (b || c) ≡ false
or-none false c is si = si
or-none true c is si = absurd (let e : true ≡ false = is in cc)

or-first : (b c : Bool) → (b || c) ≡ false → b ≡ false
or-first true c is = is
or-first false c is = refl

or-second : (b c : Bool) → (b || c) ≡ false → c ≡ false
or-second true c is = absurd (let e : true ≡ false = is in cc)
or-second false c is = is

none-both : (xs ys : List Selection) → HasNoSpread xs → HasNoSpread ys → HasNoSpread (xs ++ ys)
none-both [] ys one other = other
none-both (x ∷ xs) ys one other =
    or-none (spreads_one x) (has_spread (xs ++ ys)) (or-first (spreads_one x) (has_spread xs) one) (none-both xs ys (or-second (spreads_one x) (has_spread xs) one) other)

one-none : (x : Selection) → spreads_one x ≡ false → HasNoSpread (x ∷ [])
one-none x is = or-none (spreads_one x) false is refl

count-positive : (s : Selection) → 1 ≤ count_one s
count-positive =
    each (λ s. 1 ≤ count_one s) (λ f. omega (arith, count-field f)) (λ s. omega (arith, count-spread s)) (λ i. omega (arith, count-inline i))

-- ---- expansions

module _ (all : List Fragment) where
  module _ (C : Fragment → List Selection) (none : (it : Fragment) → HasNoSpread (C it)) where
    abbrev Goes : ℕ → List Selection → Type 0
    Goes n ss = count ss ≤ n → HasNoSpread (expand_all all C ss)

    placed-none : (s : FragmentSpread) (found : Option Fragment)
        → HasNoSpread (option_map_or (λ (it : Fragment). selection.InlineFragment (in_place s it (C it)) ∷ []) found [])
    placed-none s None = refl
    placed-none s (Some it) = one-none (selection.InlineFragment (in_place s it (C it))) (spreads-inline (in_place s it (C it)) ∙ none it)

    expand-none : (n : ℕ) → ((ss : List Selection) → Goes n ss) → (s : Selection) → count_one s ≤ suc n → HasNoSpread (expand_one all C s)
    expand-none n inside =
        each (λ s. count_one s ≤ suc n → HasNoSpread (expand_one all C s))
        (λ f small.
        let made = field_with f (expand_all all C f.selection_set.selections) in
        subst HasNoSpread (sym (expand-field all C f))
        (one-none (selection.Field made) (spreads-field made ∙ inside f.selection_set.selections (omega (arith, small, count-field f)))))
        (λ s small. subst HasNoSpread (sym (expand-spread all C s)) (placed-none s (entry fragment_name s.fragment_name.text all)))
        (λ i small.
        let made = inline_with i (expand_all all C i.selection_set.selections) in
        subst HasNoSpread (sym (expand-inline all C i))
        (one-none (selection.InlineFragment made) (spreads-inline made ∙ inside i.selection_set.selections (omega (arith, small, count-inline i)))))

    all-none : (n : ℕ) (ss : List Selection) → Goes n ss
    all-none n [] small = refl
    all-none zero (s ∷ ss) small = absurd (omega (arith, small, count-positive s))
    all-none (suc n) (s ∷ ss) small =
        none-both (expand_one all C s) (expand_all all C ss) (expand-none n (all-none n) s (omega (arith, small)))
        (all-none n ss (omega (arith, small, count-positive s)))

  within-none : (n : ℕ) (it : Fragment) → HasNoSpread (contents_within all n it)
  within-none zero it = refl
  within-none (suc n) it = all-none (contents_within all n) (within-none n) (count it.selection_set.selections) it.selection_set.selections (omega arith)

  contents-none : (it : Fragment) → HasNoSpread (contents all it)
  unfolding contents
  contents-none it = within-none (suc (length all)) it

  pub expanded-none : (ss : List Selection) → HasNoSpread (expanded all ss)
  expanded-none ss = all-none (contents all) contents-none (count ss) ss (omega arith)
