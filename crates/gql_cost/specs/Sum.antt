-- How many nodes selections can have at most: directives and type conditions are not looked at.
use Rattle.std.specs.Prelude.{ℕ, zero, suc, ◌+◌, List, length, map}
use Rattle.gql_document_types.specs.RootFields.{body}
use Rattle.gql_document_types.specs.declared.fragment.Fragment.{Fragment}
use Rattle.gql_document_types.specs.declared.selection.Selection.{Selection, fold-Selection}
use Rattle.gql_document_types.specs.declared.selection.Selection.TheOpen.{Selection-F, Field-F, InlineFragment-F, SelectionSet-F}
use Rattle.gql_collect.specs.Sizes.{added}
use Rattle.gql_cost.specs.Size.{size}

module _ (items : ℕ) where
  -- where the fragment of a name has so many
  module _ (of : List ℕ → ℕ) where
    abbrev pub selection_step : Selection-F ℕ ℕ ℕ ℕ → ℕ
    selection_step (Selection-F.Field n) = n
    selection_step (Selection-F.FragmentSpread it) = of it.fragment_name.text
    selection_step (Selection-F.InlineFragment n) = n

    abbrev pub field_step : Field-F ℕ ℕ ℕ ℕ → ℕ
    field_step it = size items it.definition.ty it.selection_set

    abbrev pub inline_step : InlineFragment-F ℕ ℕ ℕ ℕ → ℕ
    inline_step it = it.selection_set

    abbrev pub set_step : SelectionSet-F ℕ ℕ ℕ ℕ → ℕ
    set_step it = added it.selections

    abbrev pub sum_one : Selection → ℕ
    sum_one = fold-Selection ℕ ℕ ℕ ℕ selection_step field_step inline_step set_step

    abbrev pub sum_with : List Selection → ℕ
    sum_with selections = added (map sum_one selections)

  module _ (fragments : List Fragment) where
    -- of the fragment of a name, at most so many fragments inside one another; nothing where it is not defined
    abbrev pub fragment_sum : ℕ → List ℕ → ℕ
    fragment_sum zero name = 0
    fragment_sum (suc n) name = sum_with (fragment_sum n) (body fragments name)

    -- Where no fragment leads back to itself, no more are inside one another than there are.
    unfoldable pub fragment_most : List ℕ → ℕ
    fragment_most name = fragment_sum (suc (length fragments)) name

    abbrev pub sum : List Selection → ℕ
    sum selections = sum_with fragment_most selections

    -- with one node for the data themselves
    abbrev pub cost : List Selection → ℕ
    cost selections = 1 + sum selections
