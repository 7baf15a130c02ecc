-- The selections of a document, one level at a time.
use Rattle.std.proofs.Common.{rules, ◌≡◌, ℕ, suc, ◌+◌, ◌<◌, List, ◌∷◌, drop, length, get_or, Some, option_map, slice_get, sym, ap, ◌∙◌, add-one}
use Rattle.std.proofs.lemmas.Option.{slice_get-map}
use Rattle.std.proofs.Math.Seq.{drop-cons}
use Rattle.gql_document_types.specs.declared.fragment.Fragment.{Fragment}
use Rattle.gql_document_types.specs.declared.selection.Field.{Field}
use Rattle.gql_document_types.specs.declared.selection.FragmentSpread.{FragmentSpread}
use Rattle.gql_document_types.specs.declared.selection.InlineFragment.{InlineFragment}
use Rattle.gql_document_types.specs.declared.selection.Selection.{Selection, the_lemmas}
use Rattle.gql_document_types.specs.declared.selection.Selection.TheVariants as selection
use Rattle.gql_collect.specs.View.{one_field, one_inline, then_more, spread_of, weight_of, number_of, one_of, nested, body_nested, fragments_nested}
use Rattle.gql_collect.specs.bridge.View.{field_of, inline_of}

module _ (fragments : List Fragment) where
  pub view-field : (f : Field) → one_of fragments (selection.Field f) ≡ field_of fragments f
  view-field f = search (rules, the_lemmas)

  pub view-spread : (s : FragmentSpread) → one_of fragments (selection.FragmentSpread s) ≡ spread_of (number_of fragments s.fragment_name) s.location
  view-spread s = search (rules, the_lemmas)

  pub view-inline : (i : InlineFragment) → one_of fragments (selection.InlineFragment i) ≡ inline_of fragments i
  view-inline i = search (rules, the_lemmas)

  pub view-inside : (i : InlineFragment) → inline_of fragments i ≡ one_inline (nested fragments i.selection_set.selections)
  view-inside i = search (rules, the_lemmas)

  pub view-node : (f : Field) → field_of fragments f ≡ one_field (weight_of f.name.text) f.name.location (nested fragments f.selection_set.selections)
  view-node f = search (rules, the_lemmas)

  pub selections-item : (xs : List Selection) (i : ℕ) (x : Selection) → i < length xs → x ≡ get_or xs i x
      → nested fragments (drop i xs) ≡ then_more (one_of fragments x) (nested fragments (drop (i + 1) xs))
  selections-item xs i x within is = ap (nested fragments) (drop-item xs i x within is)
    where
      drop-item : {A : Type 0} (xs : List A) (i : ℕ) (x : A) → i < length xs → x ≡ get_or xs i x → drop i xs ≡ x ∷ drop (i + 1) xs
      drop-item xs i x within is = rw (add-one i) (drop-cons xs i x within ∙ ap (λ y. y ∷ drop (suc i) xs) (sym is))

  pub fragment-defined : (f : ℕ) (it : Fragment) → slice_get fragments f ≡ Some it → slice_get (fragments_nested fragments) f ≡ Some (body_nested fragments it)
  fragment-defined f it is = slice_get-map (body_nested fragments) fragments f ∙ ap (option_map (body_nested fragments)) is
