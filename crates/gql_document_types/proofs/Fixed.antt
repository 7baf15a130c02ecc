-- Fragments that don't lead back to themselves have what their selections are expanded to.
use Rattle.std.proofs.Common.{arith, ◌≡◌, ℕ, zero, suc, ◌<◌, ◌≤◌, List, [], ◌∷◌, ◌++◌, Option, Some, None, length, slice_get, position, refl, sym, ap, ◌∙◌, subst}
use Rattle.std.specs.List.{Contains}
use Rattle.std.specs.Option.{option_map, option_map_or, unwrap_or}
use Rattle.std.specs.Prelude.{option_to_list}
use Rattle.std.proofs.lemmas.List.{length-map}
use Rattle.std.proofs.lemmas.List.Elements.{Contains-append_left, Contains-append_right}
use Rattle.std.proofs.lemmas.Option.{slice_get-map}
use Rattle.gql_document_types.specs.RootFields.{fragment_name}
use Rattle.gql_document_types.specs.Spreads.{numbers_at, spread_numbers, spreads_in, spread_graph}
use Rattle.gql_document_types.specs.declared.fragment.Fragment.{Fragment}
use Rattle.gql_document_types.specs.declared.selection.FragmentSpread.{FragmentSpread}
use Rattle.gql_document_types.specs.declared.selection.Selection.{Selection}
use Rattle.gql_document_types.specs.declared.selection.Selection.TheVariants as selection
use Rattle.gql_graph.specs.Graph.{row}
use Rattle.gql_graph.specs.Ranks.{IsRanked}
use Rattle.gql_schema_types.specs.Entries.{is_called}
use Rattle.gql_schema_types.proofs.Lookups.{found, missing}
use Rattle.gql_document_types.specs.Contents.{HaveContents}
use Rattle.gql_document_types.specs.Count.{count_one, count}
use Rattle.gql_document_types.specs.Expanded.{in_place, spread_step, expand_one, expand_all, contents_within, contents}
use Rattle.gql_document_types.proofs.Variants.{each}
use Rattle.gql_document_types.proofs.Views.{field_with, inline_with, numbers-field, numbers-spread, numbers-inline, expand-field, expand-spread, expand-inline, count-field, count-spread, count-inline}

pub count-positive : (s : Selection) → 1 ≤ count_one s
count-positive =
    each (λ s. 1 ≤ count_one s) (λ f. omega (arith, count-field f)) (λ s. omega (arith, count-spread s)) (λ i. omega (arith, count-inline i))

module _ (all : List Fragment) where
  -- Selections are expanded in the same way where the fragments of these numbers have the same contents.
  module _ (G H : Fragment → List Selection) where
    abbrev AreSame : List ℕ → Type 0
    AreSame numbers = (x : ℕ) → Contains numbers x → (it : Fragment) → slice_get all x ≡ Some it → G it ≡ H it

    abbrev Goes : ℕ → List Selection → Type 0
    Goes n ss = count ss ≤ n → AreSame (spread_numbers all ss) → expand_all all G ss ≡ expand_all all H ss

    -- what stands in the place of a spread of this fragment
    abbrev placed : (Fragment → List Selection) → FragmentSpread → Option Fragment → List Selection
    placed C s o = option_map_or (λ (it : Fragment). selection.InlineFragment (in_place s it (C it)) ∷ []) o []

    placed-same : (s : FragmentSpread) (x : ℕ) (o : Option Fragment) → slice_get all x ≡ o → AreSame (x ∷ []) → placed G s o ≡ placed H s o
    placed-same s x None is same = refl
    placed-same s x (Some it) is same = ap (λ l. selection.InlineFragment (in_place s it l) ∷ []) (same x (0, omega arith, refl) it is)

    spread-same : (s : FragmentSpread) (n : Option ℕ) → position (is_called fragment_name s.fragment_name.text) all ≡ n → AreSame (option_to_list n)
        → spread_step all G s ≡ spread_step all H s
    spread-same s None is same =
        let none = missing (is_called fragment_name s.fragment_name.text) all is in
        ap (placed G s) none ∙ sym (ap (placed H s) none)
    spread-same s (Some x) is same =
        let at = found (is_called fragment_name s.fragment_name.text) all x is in
        ap (placed G s) at ∙ placed-same s x (slice_get all x) refl same ∙ sym (ap (placed H s) at)

    one-same : (n : ℕ) → ((ss : List Selection) → Goes n ss) → (s : Selection) → count_one s ≤ suc n → AreSame (numbers_at all s)
        → expand_one all G s ≡ expand_one all H s
    one-same n inside =
        each (λ s. count_one s ≤ suc n → AreSame (numbers_at all s) → expand_one all G s ≡ expand_one all H s)
        (λ f small same.
        expand-field all G f
        ∙ ap (λ l. selection.Field (field_with f l) ∷ [])
        (inside f.selection_set.selections (omega (arith, small, count-field f)) (subst AreSame (numbers-field all f) same))
        ∙ sym (expand-field all H f))
        (λ s small same. expand-spread all G s ∙ spread-same s _ refl (subst AreSame (numbers-spread all s) same) ∙ sym (expand-spread all H s))
        (λ i small same.
        expand-inline all G i
        ∙ ap (λ l. selection.InlineFragment (inline_with i l) ∷ [])
        (inside i.selection_set.selections (omega (arith, small, count-inline i)) (subst AreSame (numbers-inline all i) same))
        ∙ sym (expand-inline all H i))

    set-same : (n : ℕ) (ss : List Selection) → Goes n ss
    set-same n [] small same = refl
    set-same zero (s ∷ ss) small same = absurd (omega (arith, small, count-positive s))
    set-same (suc n) (s ∷ ss) small same =
        ap (λ l. l ++ expand_all all G ss)
        (one-same n (set-same n) s (omega (arith, small)) (λ x has. same x (Contains-append_left (numbers_at all s) (spread_numbers all ss) x has)))
        ∙ ap (λ l. expand_one all H s ++ l)
        (set-same n ss (omega (arith, small, count-positive s)) (λ x has. same x (Contains-append_right (numbers_at all s) (spread_numbers all ss) x has)))

    pub expand-same : (ss : List Selection) → AreSame (spread_numbers all ss) → expand_all all G ss ≡ expand_all all H ss
    expand-same ss same = set-same (count ss) ss (omega arith) same

  module _ (rank : ℕ → ℕ) (ranked : IsRanked (spread_graph all) rank) where
    -- a fragment spreads fragments of smaller ranks
    spreads-below : (f : ℕ) (it : Fragment) → slice_get all f ≡ Some it → (x : ℕ) → Contains (spread_numbers all it.selection_set.selections) x → rank x < rank f
    spreads-below f it is x has =
        let here : row (spread_graph all) f ≡ spreads_in all it = ap (λ o. unwrap_or o []) (slice_get-map (spreads_in all) all f ∙ ap (option_map (spreads_in all)) is) in
        ranked.falls f x (subst (λ numbers. Contains numbers x) (sym here) has)

    -- one fragment more inside one another changes nothing where there is room for all
    more : (n f : ℕ) (it : Fragment) → slice_get all f ≡ Some it → rank f < n → contents_within all n it ≡ contents_within all (suc n) it
    more zero f it is room = absurd (omega (arith, room))
    more (suc n) f it is room =
        expand-same (contents_within all n) (contents_within all (suc n)) it.selection_set.selections
        (λ x has jt there. more n x jt there (omega (arith, room, spreads-below f it is x has)))

    within-fixed : (f : ℕ) (it : Fragment) → slice_get all f ≡ Some it
        → contents_within all (suc (length all)) it ≡ expand_all all (contents_within all (suc (length all))) it.selection_set.selections
    within-fixed f it is =
        expand-same (contents_within all (length all)) (contents_within all (suc (length all))) it.selection_set.selections
        (λ x has jt there. more (length all) x jt there
        (omega (arith, spreads-below f it is x has, ranked.bounded f, length-map all (spreads_in all))))

    pub have-contents : HaveContents all
    unfolding contents
    have-contents f it is = within-fixed f it is
