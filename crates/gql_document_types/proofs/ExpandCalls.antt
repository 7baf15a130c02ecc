-- What each function of copying owes, over plain values.
use Rattle.std.proofs.Common.{◌≡◌, ℕ, ◌+◌, ◌<◌, List, [], ◌∷◌, ◌++◌, length, Some, None, position, slice_get, sym, ap, ◌∙◌, append-nil}
use Rattle.gql_document_types.specs.RootFields.{fragment_name}
use Rattle.gql_document_types.specs.declared.fragment.Fragment.{Fragment}
use Rattle.gql_document_types.specs.declared.selection.FragmentSpread.{FragmentSpread}
use Rattle.gql_document_types.specs.declared.selection.InlineFragment.{InlineFragment}
use Rattle.gql_document_types.specs.declared.selection.Selection.{Selection}
use Rattle.gql_document_types.specs.declared.selection.Selection.TheVariants as selection
use Rattle.gql_document_types.specs.declared.selection.SelectionSet.{SelectionSet}
use Rattle.gql_schema_types.specs.Entries.{is_called}
use Rattle.gql_document_types.specs.Contents.{HaveContents}
use Rattle.gql_document_types.specs.Expanded.{contents, expanded, expanded_set}
use Rattle.gql_document_types.specs.bridge.Expanded.{expanded_spread, IsInPlace}
use Rattle.gql_document_types.proofs.Counts.{entry-there, spread-defined, spread-undefined}

some-same : {A : Type 0} (x y : A) → Some x ≡ Some y → x ≡ y
some-same x y same = cc

module _ (all : List Fragment) where
  -- what is made so far and what is left

  -- what is added for one selection

  pub added-defined : (it : FragmentSpread) (number : ℕ) (x : InlineFragment) (old new : List Selection)
      → position (is_called fragment_name it.fragment_name.text) all ≡ Some number → number < length all → IsInPlace all it number x
      → new ≡ old ++ selection.InlineFragment x ∷ [] → new ≡ old ++ expanded_spread all it
  added-defined it number x old new is within placed added =
      let there = entry-there all number within in
      added ∙ ap (λ y. old ++ selection.InlineFragment y ∷ []) (placed there.0 there.1)
      ∙ ap (λ l. old ++ l) (sym (spread-defined all it number there.0 is there.1))

  pub added-undefined : (it : FragmentSpread) (old : List Selection) → position (is_called fragment_name it.fragment_name.text) all ≡ None
      → old ≡ old ++ expanded_spread all it
  added-undefined it old is = sym (append-nil old) ∙ ap (λ l. old ++ l) (sym (spread-undefined all it is))

  -- the inline fragment for a spread
  module _ (have : HaveContents all) (number : ℕ) (it : Fragment) (there : slice_get all number ≡ Some it) where
    pub is-in-place : (spread : FragmentSpread) (body made : SelectionSet) → body ≡ it.selection_set → made ≡ expanded_set all body
        → IsInPlace all spread number (record { type_condition = Some body.ty; directives = spread.directives; selection_set = made; location = spread.location })
    is-in-place spread body made is same fragment at =
        let is-same : it ≡ fragment = some-same it fragment (sym there ∙ at) in
        let within : made ≡ record { ty = fragment.selection_set.ty; selections = contents all fragment } =
        same ∙ ap (λ (s : SelectionSet). expanded_set all s) (is ∙ ap (λ (f : Fragment). f.selection_set) is-same)
        ∙ ap (λ (l : List Selection). let r : SelectionSet = record { ty = fragment.selection_set.ty; selections = l } in r) (sym (have number fragment at)) in
        ap (λ (s : SelectionSet). let r : InlineFragment = record { type_condition = Some body.ty; directives = spread.directives; selection_set = s; location = spread.location } in r) within
        ∙ ap (λ (f : SelectionSet). let r : InlineFragment = record { type_condition = Some f.ty; directives = spread.directives; selection_set = record { ty = fragment.selection_set.ty; selections = contents all fragment }; location = spread.location } in r)
        (is ∙ ap (λ (f : Fragment). f.selection_set) is-same)
