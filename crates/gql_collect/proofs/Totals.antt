-- All selections, level by level: those of a set, and those below the fields that stand there.
use Rattle.std.proofs.Common.{arith, ◌≡◌, ℕ, zero, suc, ◌+◌, ◌<◌, ◌≤◌, Option, Some, None, List, [], ◌∷◌, map, refl, ap, ◌∙◌}
use Rattle.gql_document_types.specs.declared.fragment.Fragment.{Fragment}
use Rattle.gql_document_types.specs.declared.selection.Field.{Field}
use Rattle.gql_document_types.specs.declared.selection.Selection.{Selection, out-Selection}
use Rattle.gql_collect.specs.Check.{total, total_fragments}
use Rattle.gql_collect.specs.Nested.{Nested, Place}
use Rattle.gql_collect.specs.View.{One, one_field, one_spread, one_inline, then_more, spread_of, number_of, weight_of, one_of, nested, body_nested}
use Rattle.gql_collect.proofs.Views.{view-field, view-spread, view-inline, view-inside, view-node}
use Rattle.gql_collect.specs.Sizes.{own, size, fragments_size}
use Rattle.gql_collect.specs.Standing.{fields_in, weighed}
use Rattle.gql_collect.proofs.Numbers.{own-field, own-spread, own-inline}
use Rattle.gql_collect.proofs.Standings.{inner as weight_in, shape_inner, inner-none, inner-cons}
use Rattle.gql_document_types.proofs.Variants.{out-field, out-spread, out-inline, each}
use Rattle.gql_collect.specs.bridge.Room.{set_below, fields_down, fields_down_fragments}
use Rattle.gql_collect.proofs.Weights.{weighed-flat, weighed-most, weighed-append}

total_one : One → ℕ
total_one (one_field weight place within) = 1 + total within
total_one (one_spread f place) = 1
total_one (one_inline body) = 1 + total body

then-total : (one : One) (rest : Nested) → total (then_more one rest) ≡ total_one one + total rest
unfolding total_one
then-total (one_field weight place within) rest = omega arith
then-total (one_spread f place) rest = omega arith
then-total (one_inline body) rest = omega arith

field-total : (weight : ℕ) (place : Place) (within : Nested) → total_one (one_field weight place within) ≡ 1 + total within
unfolding total_one
field-total weight place within = refl

inline-total : (body : Nested) → total_one (one_inline body) ≡ 1 + total body
unfolding total_one
inline-total body = refl

spread-total : (number : Option ℕ) (place : Place) → total_one (spread_of number place) ≡ 1
unfolding total_one
spread-total None place = refl
spread-total (Some f) place = refl

-- those of the set below a field alone
abbrev pub size_below : Field → ℕ
size_below field = size (set_below field)

module _ (fragments : List Fragment) where
  -- every selection below a field
  abbrev pub total_below : Field → ℕ
  total_below field = total (nested fragments (set_below field))

  abbrev IsSum : List Selection → Type 0
  IsSum xs = size xs + weight_in total_below xs ≡ total (nested fragments xs)

  one-sum : (n : ℕ) → ((ys : List Selection) → size ys < n → IsSum ys) → (x : Selection) → own x < suc n
      → own x + shape_inner total_below (out-Selection x) ≡ total_one (one_of fragments x)
  one-sum n inside =
      each (λ x. own x < suc n → own x + shape_inner total_below (out-Selection x) ≡ total_one (one_of fragments x))
      (λ f less. omega (
        arith,
        own-field f,
        ap (shape_inner total_below) (out-field f),
        ap total_one (view-field fragments f ∙ view-node fragments f),
        field-total (weight_of f.name.text) f.name.location (nested fragments f.selection_set.selections),
      ))
      (λ s less. omega (
        arith,
        own-spread s,
        ap (shape_inner total_below) (out-spread s),
        ap total_one (view-spread fragments s),
        spread-total (number_of fragments s.fragment_name) s.location,
      ))
      (λ i less. omega (
        arith,
        own-inline i,
        ap (shape_inner total_below) (out-inline i),
        ap total_one (view-inline fragments i ∙ view-inside fragments i),
        inline-total (nested fragments i.selection_set.selections),
        inside i.selection_set.selections (omega (arith, less, own-inline i)),
      ))

  sum : (n : ℕ) (xs : List Selection) → size xs < n → IsSum xs
  sum zero xs less = absurd (omega (arith, less))
  sum (suc n) [] less = omega (arith, inner-none total_below)
  sum (suc n) (x ∷ xs) less =
      omega (
        arith,
        one-sum n (λ ys l. sum n ys l) x (omega (arith, less)),
        inner-cons total_below x xs,
        sum (suc n) xs (omega (arith, less)),
        then-total (one_of fragments x) (nested fragments xs),
      )

  -- those of a set, and those below its fields
  pub total-sum : (xs : List Selection) → size xs + weighed total_below (fields_in xs) ≡ total (nested fragments xs)
  total-sum xs = sum (suc (size xs)) xs (omega arith)

  -- the sets below fields, however many levels down, have no more than all selections
  pub down-total : (n : ℕ) (xs : List Selection) → size xs + weighed size_below (fields_down n xs) ≤ total (nested fragments xs)
  down-total zero xs = omega (arith, total-sum xs)
  down-total (suc n) xs =
      let below : Field → List Field = λ field. field ∷ fields_down n (set_below field) in
      let flat : weighed size_below (fields_down (suc n) xs) ≡ weighed (λ field. weighed size_below (below field)) (fields_in xs) = weighed-flat size_below below (fields_in xs) in
      let most : weighed (λ field. weighed size_below (below field)) (fields_in xs) ≤ weighed total_below (fields_in xs) =
      weighed-most (λ field. weighed size_below (below field)) total_below (λ field. down-total n (set_below field)) (fields_in xs) in
      omega (arith, flat, most, total-sum xs)

  pub down-fragments-total : (n : ℕ) (all : List Fragment)
      → fragments_size all + weighed size_below (fields_down_fragments n all) ≤ total_fragments (map (body_nested fragments) all)
  down-fragments-total n [] = omega arith
  down-fragments-total n (fragment ∷ all) =
      omega (
        arith,
        weighed-append size_below (fields_down n fragment.selection_set.selections) (fields_down_fragments n all),
        down-total n fragment.selection_set.selections,
        down-fragments-total n all,
      )
