-- A walk through selections that adds what they cost, up to a most, and looks into each fragment once.
use Rattle.std.specs.Prelude.{◌≡◌, ◌≤◌, ◌⊎◌, ℕ, suc, ◌+◌, List, [], ◌∷◌, length, Option, Some, None, slice_get}
use Rattle.std.specs.Option.{option_map_or}
use Rattle.gql_document_types.specs.Count.{count, count_one}
use Rattle.gql_document_types.specs.bridge.Counted.{one_count, field_count, inline_count, spread_count, count_at}
use Rattle.gql_document_types.specs.Expanded.{expanded}
use Rattle.gql_document_types.specs.RootFields.{body}
use Rattle.gql_document_types.specs.declared.fragment.Fragment.{Fragment}
use Rattle.gql_document_types.specs.declared.selection.Field.{Field}
use Rattle.gql_document_types.specs.declared.selection.FragmentSpread.{FragmentSpread}
use Rattle.gql_document_types.specs.declared.selection.InlineFragment.{InlineFragment}
use Rattle.gql_document_types.specs.declared.selection.Selection.{Selection}
use Rattle.gql_cost.specs.Sum.{sum, sum_one, fragment_most}
use Rattle.gql_cost.specs.bridge.Sum.{field_sum}

-- a number, or the most where it is more
pub record IsCapped (most n capped : ℕ) : Type 0 where
  pub low : capped ≤ most
  pub under : capped ≤ n
  pub is : (capped ≡ n) ⊎ (capped ≡ most)

-- the selections in the fragments that were not looked into
abbrev pub waits : Option ℕ → Fragment → ℕ
waits None it = count it.selection_set.selections
waits (Some n) it = 0

abbrev pub waiting : List Fragment → List (Option ℕ) → ℕ
waiting [] memo = 0
waiting (it ∷ all) [] = 0
waiting (it ∷ all) (o ∷ memo) = waits o it + waiting all memo

abbrev pub fragments_count : List Fragment → ℕ
fragments_count [] = 0
fragments_count (it ∷ all) = count it.selection_set.selections + fragments_count all

module _ (items : ℕ) where
  -- the fragment of a name has the sum of what it selects
  abbrev pub HaveSums : List Fragment → Type 0
  HaveSums all = (name : List ℕ) → fragment_most items all name ≡ sum items all (body all name)

  module _ (most : ℕ) (all : List Fragment) where
    -- what is inside the fragment of a number
    abbrev pub sum_at : ℕ → ℕ
    sum_at f = option_map_or (λ (it : Fragment). sum items all it.selection_set.selections) (slice_get all f) 0

    -- what is remembered of a fragment is its sum
    pub record AreRight (memo : List (Option ℕ)) : Type 0 where
      pub sized : length memo ≡ length all
      pub right : (f n : ℕ) → slice_get memo f ≡ Some (Some n) → IsCapped most (sum_at f) n

    -- selections that are so many where each spread is replaced, so many as they are written, and cost so much, were walked through
    pub record Walked (bound own total : ℕ) (memo : List (Option ℕ)) (steps n : ℕ) (memo' : List (Option ℕ)) (steps' : ℕ) : Type 0 where
      pub right : AreRight memo'
      pub kept : (f : ℕ) → bound ≤ count_at all f → slice_get memo' f ≡ slice_get memo f
      pub is : IsCapped most total n
      pub looks : steps' + waiting all memo' ≤ steps + own + waiting all memo
      pub rises : steps ≤ steps'

    abbrev pub WalkedAll : List Selection → List (Option ℕ) → ℕ → ℕ → List (Option ℕ) → ℕ → Type 0
    WalkedAll selections = Walked (count (expanded all selections)) (count selections) (sum items all selections)

    abbrev pub WalkedOne : Selection → List (Option ℕ) → ℕ → ℕ → List (Option ℕ) → ℕ → Type 0
    WalkedOne selection = Walked (one_count all selection) (count_one selection) (sum_one items (fragment_most items all) selection)

    abbrev pub WalkedField : Field → List (Option ℕ) → ℕ → ℕ → List (Option ℕ) → ℕ → Type 0
    WalkedField field = Walked (field_count all field) (suc (count field.selection_set.selections)) (field_sum items (fragment_most items all) field)

    abbrev pub WalkedInline : InlineFragment → List (Option ℕ) → ℕ → ℕ → List (Option ℕ) → ℕ → Type 0
    WalkedInline inline = Walked (inline_count all inline) (suc (count inline.selection_set.selections)) (sum items all inline.selection_set.selections)

    abbrev pub WalkedSpread : FragmentSpread → List (Option ℕ) → ℕ → ℕ → List (Option ℕ) → ℕ → Type 0
    WalkedSpread spread = Walked (spread_count all spread) 1 (fragment_most items all spread.fragment_name.text)

    abbrev pub WalkedFragment : ℕ → List (Option ℕ) → ℕ → ℕ → List (Option ℕ) → ℕ → Type 0
    WalkedFragment f = Walked (suc (count_at all f)) 0 (sum_at f)
