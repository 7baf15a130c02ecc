-- What only private clauses and proofs cite, beside `Expanded`.
use Rattle.std.specs.Prelude.{◌≡◌, ℕ, List, slice_get, Some}
use Rattle.gql_document_types.specs.declared.fragment.Fragment.{Fragment}
use Rattle.gql_document_types.specs.declared.selection.Field.{Field}
use Rattle.gql_document_types.specs.declared.selection.FragmentSpread.{FragmentSpread}
use Rattle.gql_document_types.specs.declared.selection.InlineFragment.{InlineFragment}
use Rattle.gql_document_types.specs.declared.selection.Selection.{Selection}
use Rattle.gql_document_types.specs.Expanded.{in_place, spread_step, expand_one, contents, expanded_set}

module _ (fragments : List Fragment) where
  -- what stands in the place of one selection
  abbrev pub expanded_one : Selection → List Selection
  expanded_one = expand_one fragments (contents fragments)

  abbrev pub expanded_field : Field → Field
  expanded_field field = record field { selection_set = expanded_set fragments field.selection_set }

  abbrev pub expanded_inline : InlineFragment → InlineFragment
  expanded_inline fragment = record fragment { selection_set = expanded_set fragments fragment.selection_set }

  abbrev pub expanded_spread : FragmentSpread → List Selection
  expanded_spread = spread_step fragments (contents fragments)

  -- the inline fragment for a spread of the fragment of a number
  abbrev pub IsInPlace : FragmentSpread → ℕ → InlineFragment → Type 0
  IsInPlace spread number made =
      (fragment : Fragment) → slice_get fragments number ≡ Some fragment → made ≡ in_place spread fragment (contents fragments fragment)
