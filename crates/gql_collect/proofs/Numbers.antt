-- The fragments that selections spread, by their numbers, and the ranks of these.
use Rattle.std.proofs.Common.{rules, arith, ◌≡◌, ℕ, zero, suc, ◌+◌, ◌<◌, ◌≤◌, Bool, true, false, List, [], ◌∷◌, ◌++◌, Option, Some, None, slice_get, position, refl, sym, ap, ◌∙◌, subst}
use Rattle.std.specs.List.{Contains}
use Rattle.std.specs.Option.{unwrap_or, option_map}
use Rattle.std.proofs.lemmas.Option.{slice_get-map}
use Rattle.gql_graph.specs.Graph.{row}
use Rattle.gql_schema_types.specs.Entries.{is_called}
use Rattle.gql_schema_types.proofs.Lookups.{found, missing}
use Rattle.gql_document_types.specs.RootFields.{fragment_name}
use Rattle.gql_document_types.specs.Spreads.{number_of, numbers_at, spread_numbers, spreads_in, spread_graph}
use Rattle.gql_document_types.specs.declared.fragment.Fragment.{Fragment}
use Rattle.gql_document_types.specs.declared.selection.Field.{Field}
use Rattle.gql_document_types.specs.declared.selection.FragmentSpread.{FragmentSpread}
use Rattle.gql_document_types.specs.declared.selection.InlineFragment.{InlineFragment}
use Rattle.gql_document_types.specs.declared.selection.Selection.{Selection, the_lemmas, out-Selection}
use Rattle.gql_document_types.specs.declared.selection.Selection.TheVariants as selection
use Rattle.gql_document_types.specs.declared.selection.Selection.TheOpen.{Selection-F}
use Rattle.gql_collect.specs.Applies.{applies}
use Rattle.gql_collect.specs.Flat.{Shape, when, contents, body}
use Rattle.gql_document_types.specs.Ranks.{AreRanked}
use Rattle.gql_collect.specs.Setting.{Setting}
use Rattle.gql_collect.specs.Sizes.{own, size, fragments_size}
use Rattle.gql_document_types.proofs.Variants.{out-field, out-spread, out-inline, each}

-- all ranks are below a bound
abbrev pub AreBelow : (ℕ → ℕ) → ℕ → List ℕ → Type 0
AreBelow rank r [] = Unit {0}
AreBelow rank r (v ∷ vs) = (rank v < r) × AreBelow rank r vs

module _ (rank : ℕ → ℕ) where
  below-left : (r : ℕ) (us vs : List ℕ) → AreBelow rank r (us ++ vs) → AreBelow rank r us
  below-left r [] vs below = tt
  below-left r (u ∷ us) vs below = (below.0, below-left r us vs below.1)

  below-right : (r : ℕ) (us vs : List ℕ) → AreBelow rank r (us ++ vs) → AreBelow rank r vs
  below-right r [] vs below = below
  below-right r (u ∷ us) vs below = below-right r us vs below.1

  pub below-all : (r : ℕ) → ((v : ℕ) → rank v < r) → (vs : List ℕ) → AreBelow rank r vs
  below-all r all [] = tt
  below-all r all (v ∷ vs) = (all v, below-all r all vs)

  below-each : (r : ℕ) (vs : List ℕ) → ((v : ℕ) → Contains vs v → rank v < r) → AreBelow rank r vs
  below-each r [] each = tt
  below-each r (v ∷ vs) each = (each v (0, (omega arith), refl), below-each r vs (λ u has. each u (suc has.0, (omega (arith, has.1)), has.2)))

module _ (fragments : List Fragment) where
  -- those that one selection spreads, where fields don't count
  abbrev pub shape_numbers : Shape → List ℕ
  shape_numbers (Selection-F.Field it) = []
  shape_numbers (Selection-F.FragmentSpread it) = number_of fragments it.fragment_name
  shape_numbers (Selection-F.InlineFragment it) = spread_numbers fragments it.selection_set.selections

  at-spread : (s : FragmentSpread) → numbers_at fragments (selection.FragmentSpread s) ≡ number_of fragments s.fragment_name
  at-spread s = search (rules, the_lemmas)

  at-inline : (i : InlineFragment) → numbers_at fragments (selection.InlineFragment i) ≡ spread_numbers fragments i.selection_set.selections
  at-inline i = search (rules, the_lemmas)

  module _ (rank : ℕ → ℕ) (r : ℕ) where
    abbrev Shaped : Selection → Type 0
    Shaped x = AreBelow rank r (numbers_at fragments x) → AreBelow rank r (shape_numbers (out-Selection x))

    shaped : (x : Selection) → Shaped x
    shaped =
        each Shaped
        (λ f below. subst (λ k. AreBelow rank r (shape_numbers k)) (sym (out-field f)) tt)
        (λ s below. subst (λ k. AreBelow rank r (shape_numbers k)) (sym (out-spread s)) (subst (AreBelow rank r) (at-spread s) below))
        (λ i below. subst (λ k. AreBelow rank r (shape_numbers k)) (sym (out-inline i)) (subst (AreBelow rank r) (at-inline i) below))

    pub first-below : (x : Selection) (xs : List Selection) → AreBelow rank r (spread_numbers fragments (x ∷ xs)) → AreBelow rank r (shape_numbers (out-Selection x))
    first-below x xs below = shaped x (below-left rank r (numbers_at fragments x) (spread_numbers fragments xs) below)

    pub rest-below : (x : Selection) (xs : List Selection) → AreBelow rank r (spread_numbers fragments (x ∷ xs)) → AreBelow rank r (spread_numbers fragments xs)
    rest-below x xs below = below-right rank r (numbers_at fragments x) (spread_numbers fragments xs) below

    pub when-below : (b : Bool) (xs : List Selection) → AreBelow rank r (spread_numbers fragments xs) → AreBelow rank r (spread_numbers fragments (when b xs))
    when-below true xs below = below
    when-below false xs below = tt

  row-is : (f : ℕ) (fragment : Fragment) → slice_get fragments f ≡ Some fragment → row (spread_graph fragments) f ≡ spread_numbers fragments fragment.selection_set.selections
  row-is f fragment is = ap (λ o. unwrap_or o []) (slice_get-map (spreads_in fragments) fragments f ∙ ap (option_map (spreads_in fragments)) is)

  -- a fragment spreads fragments of smaller ranks
  pub fragment-below : (rank : ℕ → ℕ) → AreRanked fragments rank → (f : ℕ) (fragment : Fragment) → slice_get fragments f ≡ Some fragment
      → AreBelow rank (rank f) (spread_numbers fragments fragment.selection_set.selections)
  fragment-below rank ranked f fragment is =
      below-each rank (rank f) (spread_numbers fragments fragment.selection_set.selections)
      (λ v has. ranked.falls f v (subst (λ l. Contains l v) (sym (row-is f fragment is)) has))

-- what is inside the fragment of a number spreads fragments of smaller ranks
pub contents-below : (s : Setting) (rank : ℕ → ℕ) → AreRanked s.fragments rank → (f : ℕ) → AreBelow rank (rank f) (spread_numbers s.fragments (contents s (slice_get s.fragments f)))
contents-below s rank ranked f = by (slice_get s.fragments f) refl
  where
    by : (o : Option Fragment) → slice_get s.fragments f ≡ o → AreBelow rank (rank f) (spread_numbers s.fragments (contents s o))
    by None is = tt
    by (Some fragment) is = when-below s.fragments rank (rank f) _ fragment.selection_set.selections (fragment-below s.fragments rank ranked f fragment is)

-- the fragment of a name is that of its number
pub body-is : (s : Setting) (name : List ℕ) (f : ℕ) → position (is_called fragment_name name) s.fragments ≡ Some f → body s name ≡ contents s (slice_get s.fragments f)
body-is s name f is = ap (contents s) (found (is_called fragment_name name) s.fragments f is)

pub body-none : (s : Setting) (name : List ℕ) → position (is_called fragment_name name) s.fragments ≡ None → body s name ≡ []
body-none s name none = ap (contents s) (missing (is_called fragment_name name) s.fragments none)

-- ---- sizes

abbrev pub shape_own : Shape → ℕ
shape_own (Selection-F.Field it) = 1
shape_own (Selection-F.FragmentSpread it) = 1
shape_own (Selection-F.InlineFragment it) = 1 + size it.selection_set.selections

pub own-field : (f : Field) → own (selection.Field f) ≡ 1
own-field f = search (rules, the_lemmas)

pub own-spread : (s : FragmentSpread) → own (selection.FragmentSpread s) ≡ 1
own-spread s = search (rules, the_lemmas)

pub own-inline : (i : InlineFragment) → own (selection.InlineFragment i) ≡ 1 + size i.selection_set.selections
own-inline i = search (rules, the_lemmas)

pub own-shape : (x : Selection) → own x ≡ shape_own (out-Selection x)
own-shape =
    each (λ x. own x ≡ shape_own (out-Selection x))
    (λ f. own-field f ∙ sym (ap shape_own (out-field f)))
    (λ s. own-spread s ∙ sym (ap shape_own (out-spread s)))
    (λ i. own-inline i ∙ sym (ap shape_own (out-inline i)))

pub when-size : (b : Bool) (xs : List Selection) → size (when b xs) ≤ size xs
when-size true xs = omega arith
when-size false xs = omega arith

fragment-size : (fragments : List Fragment) (f : ℕ) (fragment : Fragment) → slice_get fragments f ≡ Some fragment → size fragment.selection_set.selections ≤ fragments_size fragments
fragment-size [] f fragment is = absurd cc
fragment-size (first ∷ fragments) zero fragment is =
    let same : first ≡ fragment = cc in
    omega (arith, ap (λ (g : Fragment). size g.selection_set.selections) same)
fragment-size (first ∷ fragments) (suc f) fragment is = omega (arith, fragment-size fragments f fragment is)

pub contents-size : (s : Setting) (f : ℕ) → size (contents s (slice_get s.fragments f)) ≤ fragments_size s.fragments
contents-size s f = by (slice_get s.fragments f) refl
  where
    by : (o : Option Fragment) → slice_get s.fragments f ≡ o → size (contents s o) ≤ fragments_size s.fragments
    by None is = omega arith
    by (Some fragment) is = omega (arith, when-size (applies s.schema.types s.object fragment.selection_set.ty.text) fragment.selection_set.selections, fragment-size s.fragments f fragment is)
