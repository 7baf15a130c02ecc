-- What the fields of a set weigh, one selection after the other.
use Rattle.std.proofs.Common.{arith, ◌≡◌, ℕ, zero, suc, ◌+◌, ◌<◌, ◌≤◌, List, [], ◌∷◌, ◌++◌, refl, ap, ◌∙◌}
use Rattle.gql_document_types.specs.declared.selection.Field.{Field}
use Rattle.gql_document_types.specs.declared.selection.Selection.{Selection, out-Selection}
use Rattle.gql_document_types.specs.declared.selection.Selection.TheOpen.{Selection-F}
use Rattle.gql_collect.specs.Flat.{Shape}
use Rattle.gql_collect.specs.Sizes.{size}
use Rattle.gql_collect.specs.Standing.{fields_at, fields_within, fields_in, weighed}
use Rattle.gql_collect.proofs.Numbers.{shape_own, own-shape}

-- however many inline fragments may be inside one another, if they are enough
enough : (n m : ℕ) (xs : List Selection) → size xs < n → size xs < m → fields_within n xs ≡ fields_within m xs
enough zero m xs less more = absurd (omega (arith, less))
enough (suc n) zero xs less more = absurd (omega (arith, more))
enough (suc n) (suc m) [] less more = refl
enough (suc n) (suc m) (x ∷ xs) less more =
    ap (λ l. l ++ fields_within (suc n) xs) (at (λ ys l r. enough n m ys l r) (out-Selection x) (omega (arith, own-shape x, less)) (omega (arith, own-shape x, more)))
    ∙ ap (λ l. fields_at (fields_within m) (out-Selection x) ++ l) (enough (suc n) (suc m) xs (omega (arith, less)) (omega (arith, more)))
  where
    at : ((ys : List Selection) → size ys < n → size ys < m → fields_within n ys ≡ fields_within m ys)
        → (k : Shape) → shape_own k < suc n → shape_own k < suc m → fields_at (fields_within n) k ≡ fields_at (fields_within m) k
    at inside (Selection-F.Field it) less more = refl
    at inside (Selection-F.FragmentSpread it) less more = refl
    at inside (Selection-F.InlineFragment it) less more = inside it.selection_set.selections (omega (arith, less)) (omega (arith, more))

pub fields-none : fields_in [] ≡ []
unfolding fields_in
fields-none = refl

pub fields-cons : (x : Selection) (xs : List Selection) → fields_in (x ∷ xs) ≡ fields_at fields_in (out-Selection x) ++ fields_in xs
unfolding fields_in
fields-cons x xs =
    ap (λ l. l ++ fields_within (suc (size (x ∷ xs))) xs) (at (out-Selection x) (omega (arith, own-shape x)))
    ∙ ap (λ l. fields_at fields_in (out-Selection x) ++ l) (enough (suc (size (x ∷ xs))) (suc (size xs)) xs (omega arith) (omega arith))
  where
    at : (k : Shape) → shape_own k ≤ size (x ∷ xs) → fields_at (fields_within (size (x ∷ xs))) k ≡ fields_at (λ ys. fields_within (suc (size ys)) ys) k
    at (Selection-F.Field it) room = refl
    at (Selection-F.FragmentSpread it) room = refl
    at (Selection-F.InlineFragment it) room = enough (size (x ∷ xs)) (suc (size it.selection_set.selections)) it.selection_set.selections (omega (arith, room)) (omega arith)

module _ (w : Field → ℕ) where
  pub weighed-append : (xs ys : List Field) → weighed w (xs ++ ys) ≡ weighed w xs + weighed w ys
  weighed-append [] ys = omega arith
  weighed-append (x ∷ xs) ys = omega (arith, weighed-append xs ys)

  -- what a set's fields weigh
  abbrev pub inner : List Selection → ℕ
  inner xs = weighed w (fields_in xs)

  abbrev pub shape_inner : Shape → ℕ
  shape_inner (Selection-F.Field it) = w it
  shape_inner (Selection-F.FragmentSpread it) = 0
  shape_inner (Selection-F.InlineFragment it) = inner it.selection_set.selections

  pub inner-none : inner [] ≡ 0
  inner-none = ap (weighed w) fields-none

  inner-at : (k : Shape) → weighed w (fields_at fields_in k) ≡ shape_inner k
  inner-at (Selection-F.Field it) = omega arith
  inner-at (Selection-F.FragmentSpread it) = refl
  inner-at (Selection-F.InlineFragment it) = refl

  pub inner-cons : (x : Selection) (xs : List Selection) → inner (x ∷ xs) ≡ shape_inner (out-Selection x) + inner xs
  inner-cons x xs =
      ap (weighed w) (fields-cons x xs) ∙ weighed-append (fields_at fields_in (out-Selection x)) (fields_in xs)
      ∙ ap (λ n. n + inner xs) (inner-at (out-Selection x))
