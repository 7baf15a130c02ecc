-- Counts of expanded selections that stop at a limit.
use Rattle.std.specs.Prelude.{◌≡◌, ◌≤◌, ◌<◌, ℕ, ◌+◌, List, length, Option, Some, None, slice_get}
use Rattle.std.specs.Option.{option_map_or}
use Rattle.gql_document_types.specs.Count.{count}
use Rattle.gql_document_types.specs.Expanded.{contents, expanded}
use Rattle.gql_document_types.specs.bridge.Expanded.{expanded_one, expanded_spread}
use Rattle.gql_document_types.specs.declared.fragment.Fragment.{Fragment}
use Rattle.gql_document_types.specs.declared.selection.Field.{Field}
use Rattle.gql_document_types.specs.declared.selection.FragmentSpread.{FragmentSpread}
use Rattle.gql_document_types.specs.declared.selection.InlineFragment.{InlineFragment}
use Rattle.gql_document_types.specs.declared.selection.Selection.{Selection}

-- a number, unless it is more than the limit
abbrev pub IsCounted : ℕ → ℕ → Option ℕ → Type 0
IsCounted limit n (Some counted) = (counted ≡ n) × (n ≤ limit)
IsCounted limit n None = limit < n

module _ (fragments : List Fragment) where
  abbrev pub one_count : Selection → ℕ
  one_count selection = count (expanded_one fragments selection)

  abbrev pub field_count : Field → ℕ
  field_count field = 1 + count (expanded fragments field.selection_set.selections)

  abbrev pub inline_count : InlineFragment → ℕ
  inline_count fragment = 1 + count (expanded fragments fragment.selection_set.selections)

  abbrev pub spread_count : FragmentSpread → ℕ
  spread_count spread = count (expanded_spread fragments spread)

  -- what is inside the fragment of a number
  abbrev pub count_at : ℕ → ℕ
  count_at number = option_map_or (λ (fragment : Fragment). count (contents fragments fragment)) (slice_get fragments number) 0

  -- what is remembered of a fragment is its count
  pub record AreRight (limit : ℕ) (memo : List (Option ℕ)) : Type 0 where
    pub sized : length memo ≡ length fragments
    pub right : (number counted : ℕ) → slice_get memo number ≡ Some (Some counted) → IsCounted limit (count_at number) (Some counted)
