-- Where no fragment leads back to itself, a fragment has the sum of what it selects.
use Rattle.std.proofs.Common.{arith, ◌≡◌, ℕ, zero, suc, ◌<◌, ◌≤◌, List, [], ◌∷◌, Option, Some, None, length, slice_get, position, refl, sym, ap, ap₂, ◌∙◌, subst, ◌+◌}
use Rattle.std.specs.List.{Contains}
use Rattle.std.specs.Option.{option_map, option_map_or, unwrap_or}
use Rattle.std.specs.Prelude.{option_to_list}
use Rattle.std.proofs.lemmas.List.{length-map}
use Rattle.std.proofs.lemmas.List.Elements.{Contains-append_left, Contains-append_right}
use Rattle.std.proofs.lemmas.Option.{slice_get-map}
use Rattle.gql_document_types.proofs.Variants.{each}
use Rattle.gql_document_types.proofs.Views.{numbers-field, numbers-spread, numbers-inline, count-field, count-spread, count-inline}
use Rattle.gql_document_types.specs.Count.{count_one, count}
use Rattle.gql_document_types.specs.RootFields.{fragment_name, body}
use Rattle.gql_document_types.specs.Spreads.{numbers_at, spread_numbers, spreads_in, spread_graph}
use Rattle.gql_document_types.specs.declared.fragment.Fragment.{Fragment}
use Rattle.gql_document_types.specs.declared.selection.Selection.{Selection}
use Rattle.gql_collect.proofs.Lists.{at-position}
use Rattle.gql_graph.specs.Graph.{row}
use Rattle.gql_graph.specs.Ranks.{IsRanked}
use Rattle.gql_schema_types.proofs.Lookups.{found, missing}
use Rattle.gql_schema_types.specs.Entries.{is_called}
use Rattle.gql_cost.specs.Size.{size}
use Rattle.gql_cost.specs.Sum.{sum_one, sum_with, fragment_sum, fragment_most}
use Rattle.gql_cost.proofs.Sums.{sum-field, sum-spread, sum-inline}

count-positive : (s : Selection) → 1 ≤ count_one s
count-positive =
    each (λ s. 1 ≤ count_one s) (λ f. omega (arith, count-field f)) (λ s. omega (arith, count-spread s)) (λ i. omega (arith, count-inline i))

module _ (items : ℕ) (all : List Fragment) where
  abbrev place : List ℕ → Option ℕ
  place name = position (is_called fragment_name name) all

  body-none : (name : List ℕ) → place name ≡ None → body all name ≡ []
  body-none name is = ap (λ (o : Option Fragment). option_map_or (λ fragment. fragment.selection_set.selections) o []) (missing (is_called fragment_name name) all is)

  body-some : (name : List ℕ) (x : ℕ) (it : Fragment) → place name ≡ Some x → slice_get all x ≡ Some it → body all name ≡ it.selection_set.selections
  body-some name x it is there =
      ap (λ (o : Option Fragment). option_map_or (λ fragment. fragment.selection_set.selections) o []) (found (is_called fragment_name name) all x is ∙ there)

  -- Sums are the same where the fragments of these numbers have the same, and those that are not defined.
  module _ (G H : List ℕ → ℕ) (undefined : (name : List ℕ) → place name ≡ None → G name ≡ H name) where
    abbrev AreSame : List ℕ → Type 0
    AreSame numbers = (x : ℕ) → Contains numbers x → (name : List ℕ) → place name ≡ Some x → G name ≡ H name

    abbrev Goes : ℕ → List Selection → Type 0
    Goes n ss = count ss ≤ n → AreSame (spread_numbers all ss) → sum_with items G ss ≡ sum_with items H ss

    spread-same : (name : List ℕ) (o : Option ℕ) → place name ≡ o → AreSame (option_to_list o) → G name ≡ H name
    spread-same name None is same = undefined name is
    spread-same name (Some x) is same = same x (0, omega arith, refl) name is

    one-same : (n : ℕ) → ((ss : List Selection) → Goes n ss) → (s : Selection) → count_one s ≤ suc n → AreSame (numbers_at all s)
        → sum_one items G s ≡ sum_one items H s
    one-same n inside =
        each (λ s. count_one s ≤ suc n → AreSame (numbers_at all s) → sum_one items G s ≡ sum_one items H s)
        (λ f small same.
        sum-field items G f
        ∙ ap (λ c. size items f.definition.ty c)
        (inside f.selection_set.selections (omega (arith, small, count-field f)) (subst AreSame (numbers-field all f) same))
        ∙ sym (sum-field items H f))
        (λ s small same. sum-spread items G s ∙ spread-same s.fragment_name.text _ refl (subst AreSame (numbers-spread all s) same) ∙ sym (sum-spread items H s))
        (λ i small same.
        sum-inline items G i
        ∙ inside i.selection_set.selections (omega (arith, small, count-inline i)) (subst AreSame (numbers-inline all i) same)
        ∙ sym (sum-inline items H i))

    set-same : (n : ℕ) (ss : List Selection) → Goes n ss
    set-same n [] small same = refl
    set-same zero (s ∷ ss) small same = absurd (omega (arith, small, count-positive s))
    set-same (suc n) (s ∷ ss) small same =
        ap₂ (λ a b. a + b)
        (one-same n (set-same n) s (omega (arith, small)) (λ x has. same x (Contains-append_left (numbers_at all s) (spread_numbers all ss) x has)))
        (set-same n ss (omega (arith, small, count-positive s)) (λ x has. same x (Contains-append_right (numbers_at all s) (spread_numbers all ss) x has)))

    pub sums-same : (ss : List Selection) → AreSame (spread_numbers all ss) → sum_with items G ss ≡ sum_with items H ss
    sums-same ss same = set-same (count ss) ss (omega arith) same

  -- a fragment that is not defined has nothing
  none-sum : (n : ℕ) (name : List ℕ) → place name ≡ None → fragment_sum items all n name ≡ 0
  none-sum zero name is = refl
  none-sum (suc n) name is = ap (sum_with items (fragment_sum items all n)) (body-none name is)

  both-none : (n m : ℕ) (name : List ℕ) → place name ≡ None → fragment_sum items all n name ≡ fragment_sum items all m name
  both-none n m name is = none-sum n name is ∙ sym (none-sum m name is)

  abbrev Stands : ℕ → List ℕ → Type 0
  Stands x name = (it : Fragment) × (slice_get all x ≡ Some it) × (body all name ≡ it.selection_set.selections)

  stands : (x : ℕ) (name : List ℕ) → place name ≡ Some x → Stands x name
  stands x name is =
      let at = at-position (is_called fragment_name name) all x is in
      (at.0, at.1, body-some name x at.0 is at.1)

  module _ (rank : ℕ → ℕ) (ranked : IsRanked (spread_graph all) rank) where
    spreads-below : (f : ℕ) (it : Fragment) → slice_get all f ≡ Some it → (x : ℕ) → Contains (spread_numbers all it.selection_set.selections) x → rank x < rank f
    spreads-below f it is x has =
        let here : row (spread_graph all) f ≡ spreads_in all it = ap (λ o. unwrap_or o []) (slice_get-map (spreads_in all) all f ∙ ap (option_map (spreads_in all)) is) in
        ranked.falls f x (subst (λ numbers. Contains numbers x) (sym here) has)

    -- one fragment more inside one another changes nothing where there is room for all
    more : (n f : ℕ) (name : List ℕ) → place name ≡ Some f → rank f < n → fragment_sum items all n name ≡ fragment_sum items all (suc n) name
    more zero f name is room = absurd (omega (arith, room))
    more (suc n) f name is room =
        let at = stands f name is in
        ap (sum_with items (fragment_sum items all n)) at.2
        ∙ sums-same (fragment_sum items all n) (fragment_sum items all (suc n)) (both-none n (suc n)) at.0.selection_set.selections
        (λ x has other there. more n x other there (omega (arith, room, spreads-below f at.0 at.1 x has)))
        ∙ sym (ap (sum_with items (fragment_sum items all (suc n))) at.2)

    fixed-by : (name : List ℕ) (o : Option ℕ) → place name ≡ o
        → sum_with items (fragment_sum items all (suc (length all))) (body all name) ≡ fragment_sum items all (suc (length all)) name
    fixed-by name None is =
        ap (sum_with items (fragment_sum items all (suc (length all)))) (body-none name is) ∙ sym (none-sum (suc (length all)) name is)
    fixed-by name (Some f) is =
        let at = stands f name is in
        ap (sum_with items (fragment_sum items all (suc (length all)))) at.2
        ∙ sym (sums-same (fragment_sum items all (length all)) (fragment_sum items all (suc (length all))) (both-none (length all) (suc (length all))) at.0.selection_set.selections
        (λ x has other there. more (length all) x other there
        (omega (arith, spreads-below f at.0 at.1 x has, ranked.bounded f, length-map all (spreads_in all)))))
        ∙ sym (ap (sum_with items (fragment_sum items all (length all))) at.2)

    pub most-fixed : (name : List ℕ) → sum_with items (fragment_most items all) (body all name) ≡ fragment_most items all name
    unfolding fragment_most
    most-fixed name = fixed-by name (place name) refl
