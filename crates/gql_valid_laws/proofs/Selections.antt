-- What holds of each selection where it holds of those inside it.
use Rattle.std.proofs.Common.{rules, arith, ◌≡◌, ◌≤◌, ℕ, zero, suc, ◌+◌, List, [], ◌∷◌, ◌++◌, map}
use Rattle.std.specs.List.{AllByRecursion}
use Rattle.gql_document_types.proofs.Variants.{each}
use Rattle.gql_document_types.specs.declared.selection.Field.{Field}
use Rattle.gql_document_types.specs.declared.selection.FragmentSpread.{FragmentSpread}
use Rattle.gql_document_types.specs.declared.selection.InlineFragment.{InlineFragment}
use Rattle.gql_document_types.specs.declared.selection.Selection.{Selection, the_lemmas, fold-Selection}
use Rattle.gql_document_types.specs.declared.selection.Selection.TheOpen.{Selection-F, Field-F, InlineFragment-F, SelectionSet-F}
use Rattle.gql_document_types.specs.declared.selection.Selection.TheVariants as selection

-- ---- lists

pub all-both : {A : Type 0} (P : A → Type 0) (xs ys : List A) → AllByRecursion P xs → AllByRecursion P ys → AllByRecursion P (xs ++ ys)
all-both P [] ys one other = other
all-both P (x ∷ xs) ys one other = (one.0, all-both P xs ys one.1 other)

pub all-map : {A : Type 0} (P Q : A → Type 0) → ((x : A) → P x → Q x) → (xs : List A) → AllByRecursion P xs → AllByRecursion Q xs
all-map P Q f [] all = tt
all-map P Q f (x ∷ xs) all = (f x all.0, all-map P Q f xs all.1)

-- ---- how much is inside a selection

abbrev size_selection : Selection-F ℕ ℕ ℕ ℕ → ℕ
size_selection (Selection-F.Field n) = n
size_selection (Selection-F.FragmentSpread s) = 1
size_selection (Selection-F.InlineFragment n) = n

abbrev size_field : Field-F ℕ ℕ ℕ ℕ → ℕ
size_field field = suc field.selection_set

abbrev size_inline : InlineFragment-F ℕ ℕ ℕ ℕ → ℕ
size_inline fragment = suc fragment.selection_set

abbrev added : List ℕ → ℕ
added [] = 0
added (n ∷ ns) = n + added ns

abbrev size_set : SelectionSet-F ℕ ℕ ℕ ℕ → ℕ
size_set set = added set.selections

abbrev whole : Selection → ℕ
whole = fold-Selection ℕ ℕ ℕ ℕ size_selection size_field size_inline size_set

abbrev whole_of : List Selection → ℕ
whole_of selections = added (map whole selections)

whole-field : (f : Field) → whole (selection.Field f) ≡ suc (whole_of f.selection_set.selections)
whole-field f = search (rules, the_lemmas)

whole-spread : (s : FragmentSpread) → whole (selection.FragmentSpread s) ≡ 1
whole-spread s = search (rules, the_lemmas)

whole-inline : (i : InlineFragment) → whole (selection.InlineFragment i) ≡ suc (whole_of i.selection_set.selections)
whole-inline i = search (rules, the_lemmas)

module _ (P : Selection → Type 0)
    (field : (f : Field) → AllByRecursion P f.selection_set.selections → P (selection.Field f))
    (spread : (s : FragmentSpread) → P (selection.FragmentSpread s))
    (inline : (i : InlineFragment) → AllByRecursion P i.selection_set.selections → P (selection.InlineFragment i)) where
  abbrev Below : ℕ → Selection → Type 0
  Below n x = whole x ≤ n → P x

  all-below : (n : ℕ) → ((x : Selection) → Below n x) → (xs : List Selection) → whole_of xs ≤ n → AllByRecursion P xs
  all-below n below [] less = tt
  all-below n below (x ∷ xs) less = (below x (omega (arith, less)), all-below n below xs (omega (arith, less)))

  one-below : (n : ℕ) → ((x : Selection) → Below n x) → (x : Selection) → Below (suc n) x
  one-below n below =
      each (Below (suc n))
      (λ f less. field f (all-below n below f.selection_set.selections (omega (arith, less, whole-field f))))
      (λ s less. spread s)
      (λ i less. inline i (all-below n below i.selection_set.selections (omega (arith, less, whole-inline i))))

  none-below : (x : Selection) → Below 0 x
  none-below =
      each (Below 0)
      (λ f less. absurd (omega (arith, less, whole-field f)))
      (λ s less. absurd (omega (arith, less, whole-spread s)))
      (λ i less. absurd (omega (arith, less, whole-inline i)))

  below-all : (n : ℕ) (x : Selection) → Below n x
  below-all zero = none-below
  below-all (suc n) = one-below n (below-all n)

  pub each-inside : (x : Selection) → P x
  each-inside x = below-all (whole x) x (omega arith)

  pub all-inside : (xs : List Selection) → AllByRecursion P xs
  all-inside [] = tt
  all-inside (x ∷ xs) = (each-inside x, all-inside xs)
