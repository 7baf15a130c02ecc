-- How many selections there are, as they are counted where they are expanded, and as they are counted where their depth is checked.
use Rattle.std.proofs.Common.{arith, ◌≡◌, ℕ, zero, suc, ◌+◌, ◌≤◌, List, [], ◌∷◌, map, Option, Some, None, ap, ◌∙◌}
use Rattle.gql_collect.specs.Check.{total, total_fragments}
use Rattle.gql_collect.specs.Nested.{Nested, Place}
use Rattle.gql_collect.specs.Room.{all_selections}
use Rattle.gql_collect.specs.View.{then_more, spread_of, number_of, one_of, nested, body_nested}
use Rattle.gql_collect.proofs.Views.{view-field, view-spread, view-inline, view-inside, view-node}
use Rattle.gql_document_types.proofs.Variants.{each}
use Rattle.gql_document_types.proofs.Views.{count-field, count-spread, count-inline}
use Rattle.gql_document_types.specs.Count.{count, count_one}
use Rattle.gql_document_types.specs.declared.fragment.Fragment.{Fragment}
use Rattle.gql_document_types.specs.declared.selection.Selection.{Selection}
use Rattle.gql_cost.specs.bridge.Walked.{fragments_count}

counts-some : (s : Selection) → 1 ≤ count_one s
counts-some s = each (λ s. 1 ≤ count_one s) (λ f. omega (arith, count-field f)) (λ p. omega (arith, count-spread p)) (λ i. omega (arith, count-inline i)) s

module _ (all : List Fragment) where
  abbrev Counted : ℕ → List Selection → Type 0
  Counted n ss = count ss ≤ n → total (nested all ss) ≡ count ss

  spread-total : (number : Option ℕ) (place : Place) (rest : Nested) → total (then_more (spread_of number place) rest) ≡ 1 + total rest
  spread-total None place rest = omega arith
  spread-total (Some number) place rest = omega arith

  -- one selection before others, if what is inside it is counted
  one-total : (n : ℕ) (rest : Nested) → ((ss : List Selection) → Counted n ss) → (s : Selection) → count_one s ≤ suc n
      → total (then_more (one_of all s) rest) ≡ count_one s + total rest
  one-total n rest inside s =
      each (λ s. count_one s ≤ suc n → total (then_more (one_of all s) rest) ≡ count_one s + total rest)
      (λ f small.
      omega (
        arith,
        count-field f,
        ap (λ o. total (then_more o rest)) (view-field all f ∙ view-node all f),
        inside f.selection_set.selections (omega (arith, small, count-field f)),
      ))
      (λ p small.
      omega (arith, count-spread p, ap (λ o. total (then_more o rest)) (view-spread all p), spread-total (number_of all p.fragment_name) p.location rest))
      (λ i small.
      omega (
        arith,
        count-inline i,
        ap (λ o. total (then_more o rest)) (view-inline all i ∙ view-inside all i),
        inside i.selection_set.selections (omega (arith, small, count-inline i)),
      ))
      s

  set-total : (n : ℕ) (ss : List Selection) → Counted n ss
  set-total n [] small = omega arith
  set-total zero (s ∷ ss) small = absurd (omega (arith, small, counts-some s))
  set-total (suc n) (s ∷ ss) small =
      omega (arith, one-total n (nested all ss) (set-total n) s (omega (arith, small)), set-total n ss (omega (arith, small, counts-some s)))

  pub selections-total : (ss : List Selection) → total (nested all ss) ≡ count ss
  selections-total ss = set-total (count ss) ss (omega arith)

  fragments-total : (these : List Fragment) → total_fragments (map (body_nested all) these) ≡ fragments_count these
  fragments-total [] = omega arith
  fragments-total (it ∷ these) = omega (arith, selections-total it.selection_set.selections, fragments-total these)

  -- those of an operation and of all fragments
  pub all-total : (ss : List Selection) → all_selections all ss ≡ count ss + fragments_count all
  all-total ss = omega (arith, selections-total ss, fragments-total all)
