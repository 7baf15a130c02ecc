-- Fragments that do not lead back to themselves have ranks.
use Rattle.std.proofs.Common.{arith, rules, ◌≡◌, ℕ, zero, suc, ◌<◌, ◌≤◌, List, [], ◌∷◌, Option, Some, None, slice_get, refl, sym, ap, ◌∙◌, subst}
use Rattle.std.specs.List.{Contains}
use Rattle.std.specs.Option.{option_map, unwrap_or}
use Rattle.std.specs.Prelude.{option_to_list}
use Rattle.std.proofs.lemmas.List.{length-map}
use Rattle.std.proofs.lemmas.List.Elements.{Contains-append_left, Contains-append_right}
use Rattle.std.proofs.lemmas.Option.{slice_get-map}
use Rattle.gql_document_types.specs.Spreads.{numbers_at, spread_numbers, spreads_in, spread_graph}
use Rattle.gql_document_types.specs.declared.fragment.Fragment.{Fragment}
use Rattle.gql_document_types.specs.declared.selection.Field.{Field}
use Rattle.gql_document_types.specs.declared.selection.FragmentSpread.{FragmentSpread}
use Rattle.gql_document_types.specs.declared.selection.InlineFragment.{InlineFragment}
use Rattle.gql_document_types.specs.declared.selection.Selection.{Selection, the_lemmas}
use Rattle.gql_document_types.specs.declared.selection.Selection.TheVariants as selection
use Rattle.gql_collect.specs.Check.{total}
use Rattle.gql_collect.specs.Nested.{Nested, Place, body_in}
use Rattle.gql_collect.specs.bridge.Nested.{IsBelow, AreRanked}
use Rattle.gql_collect.specs.View.{One, one_field, one_spread, one_inline, then_more, spread_of, number_of, one_of, nested, body_nested, fragments_nested}
use Rattle.gql_document_types.proofs.Variants.{each}
use Rattle.gql_collect.proofs.Views.{view-field, view-spread, view-inline, view-inside, view-node}
use Rattle.gql_graph.specs.Graph.{row}
use Rattle.gql_graph.specs.Ranks.{IsRanked}

numbers-field : (all : List Fragment) (f : Field) → numbers_at all (selection.Field f) ≡ spread_numbers all f.selection_set.selections
numbers-field all f = search (rules, the_lemmas)

numbers-spread : (all : List Fragment) (s : FragmentSpread) → numbers_at all (selection.FragmentSpread s) ≡ option_to_list (number_of all s.fragment_name)
numbers-spread all s = search (rules, the_lemmas)

numbers-inline : (all : List Fragment) (i : InlineFragment) → numbers_at all (selection.InlineFragment i) ≡ spread_numbers all i.selection_set.selections
numbers-inline all i = search (rules, the_lemmas)

module _ (all : List Fragment) (rank : ℕ → ℕ) where
  -- the fragments of these numbers have smaller ranks
  abbrev AreBelow : ℕ → List ℕ → Type 0
  AreBelow r numbers = (x : ℕ) → Contains numbers x → rank x < r

  abbrev Goes : ℕ → ℕ → List Selection → Type 0
  Goes n r ss = total (nested all ss) ≤ n → AreBelow r (spread_numbers all ss) → IsBelow rank r (nested all ss)

  spread-below : (r : ℕ) (number : Option ℕ) (place : Place) (rest : Nested) → AreBelow r (option_to_list number) → IsBelow rank r rest
      → IsBelow rank r (then_more (spread_of number place) rest)
  spread-below r None place rest below others = (tt, others)
  spread-below r (Some x) place rest below others = (below x (0, omega arith, refl), others)

  -- what is below one selection, if what is inside it is and what follows is
  one-below : (n r : ℕ) (rest : Nested) → ((ss : List Selection) → Goes n r ss) → (s : Selection)
      → total (then_more (one_of all s) rest) ≤ suc n → AreBelow r (numbers_at all s) → IsBelow rank r rest → IsBelow rank r (then_more (one_of all s) rest)
  one-below n r rest inside s =
      each (λ s. total (then_more (one_of all s) rest) ≤ suc n → AreBelow r (numbers_at all s) → IsBelow rank r rest → IsBelow rank r (then_more (one_of all s) rest))
      (λ f small below others.
      let same = view-field all f ∙ view-node all f in
      subst (λ o. IsBelow rank r (then_more o rest)) (sym same) (
        inside f.selection_set.selections (omega (arith, small, ap (λ o. total (then_more o rest)) same))
            (subst (AreBelow r) (numbers-field all f) below),
        others,
      ))
      (λ s small below others.
      subst (λ o. IsBelow rank r (then_more o rest)) (sym (view-spread all s))
      (spread-below r (number_of all s.fragment_name) s.location rest (subst (AreBelow r) (numbers-spread all s) below) others))
      (λ i small below others.
      let same = view-inline all i ∙ view-inside all i in
      subst (λ o. IsBelow rank r (then_more o rest)) (sym same) (
        inside i.selection_set.selections (omega (arith, small, ap (λ o. total (then_more o rest)) same))
            (subst (AreBelow r) (numbers-inline all i) below),
        others,
      ))
      s

  more-total : (one : One) (rest : Nested) → suc (total rest) ≤ total (then_more one rest)
  more-total (one_field weight place within) rest = omega arith
  more-total (one_spread f place) rest = omega arith
  more-total (one_inline body) rest = omega arith

  set-below : (n r : ℕ) (ss : List Selection) → Goes n r ss
  set-below n r [] small below = tt
  set-below zero r (s ∷ ss) small below = absurd (omega (arith, small, more-total (one_of all s) (nested all ss)))
  set-below (suc n) r (s ∷ ss) small below =
      one-below n r (nested all ss) (set-below n r) s small
      (λ x there. below x (Contains-append_left (numbers_at all s) (spread_numbers all ss) x there))
      (set-below n r ss (omega (arith, small, more-total (one_of all s) (nested all ss)))
      (λ x there. below x (Contains-append_right (numbers_at all s) (spread_numbers all ss) x there)))

  module _ (ranked : IsRanked (spread_graph all) rank) where
    at-fragment : (f : ℕ) (o : Option Fragment) → slice_get all f ≡ o → IsBelow rank (rank f) (body_in (option_map (body_nested all) o))
    at-fragment f None is = tt
    at-fragment f (Some it) is =
        let here : row (spread_graph all) f ≡ spreads_in all it = ap (λ o. unwrap_or o []) (slice_get-map (spreads_in all) all f ∙ ap (option_map (spreads_in all)) is) in
        set-below (total (body_nested all it)) (rank f) it.selection_set.selections (omega arith)
        (λ x there. ranked.falls f x (subst (λ numbers. Contains numbers x) (sym here) there))

    pub fragments-ranked : AreRanked (fragments_nested all) rank
    fragments-ranked = record {
      bodies = λ f. subst (λ o. IsBelow rank (rank f) (body_in o)) (sym (slice_get-map (body_nested all) all f)) (at-fragment f (slice_get all f) refl);
      bounded = λ f. omega (arith, ranked.bounded f, length-map all (spreads_in all), length-map all (body_nested all));
    }
