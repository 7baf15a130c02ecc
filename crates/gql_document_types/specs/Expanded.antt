-- Selections without spreads: each spread is replaced by an inline fragment that selects what its fragment selects.
-- Sections 2.8 and 2.8.2 of GraphQL October 2021.
use Rattle.std.specs.Prelude.{ℕ, zero, suc, List, [], ◌∷◌, ◌++◌, length, map, Some}
use Rattle.std.specs.Option.{option_map_or}
use Rattle.gql_document_types.specs.RootFields.{fragment_name}
use Rattle.gql_document_types.specs.declared.fragment.Fragment.{Fragment}
use Rattle.gql_document_types.specs.declared.operation.Operation.{Operation}
use Rattle.gql_document_types.specs.declared.selection.Field.{Field}
use Rattle.gql_document_types.specs.declared.selection.FragmentSpread.{FragmentSpread}
use Rattle.gql_document_types.specs.declared.selection.InlineFragment.{InlineFragment}
use Rattle.gql_document_types.specs.declared.selection.Selection.{Selection, fold-Selection}
use Rattle.gql_document_types.specs.declared.selection.Selection.TheOpen.{Selection-F, Field-F, InlineFragment-F, SelectionSet-F}
use Rattle.gql_document_types.specs.declared.selection.Selection.TheVariants as selection
use Rattle.gql_document_types.specs.declared.selection.SelectionSet.{SelectionSet}
use Rattle.gql_schema_types.specs.Entries.{entry}

-- the inline fragment on a fragment's type, under the directives of a spread and at its place
abbrev pub in_place : FragmentSpread → Fragment → List Selection → InlineFragment
in_place it fragment selections = record {
  type_condition = Some fragment.selection_set.ty;
  directives = it.directives;
  selection_set = record { ty = fragment.selection_set.ty; selections = selections };
  location = it.location;
}

abbrev pub joined : List (List Selection) → List Selection
joined [] = []
joined (selections ∷ others) = selections ++ joined others

module _ (fragments : List Fragment) where
  module _ (inside : Fragment → List Selection) where
    -- a spread of a fragment that is not defined is left out
    abbrev pub spread_step : FragmentSpread → List Selection
    spread_step it =
        option_map_or (λ (fragment : Fragment). selection.InlineFragment (in_place it fragment (inside fragment)) ∷ [])
        (entry fragment_name it.fragment_name.text fragments) []

    abbrev pub selection_step : Selection-F (List Selection) Field InlineFragment SelectionSet → List Selection
    selection_step (Selection-F.Field it) = selection.Field it ∷ []
    selection_step (Selection-F.FragmentSpread it) = spread_step it
    selection_step (Selection-F.InlineFragment it) = selection.InlineFragment it ∷ []

    abbrev pub field_step : Field-F (List Selection) Field InlineFragment SelectionSet → Field
    field_step it = record {
      alias = it.alias;
      name = it.name;
      arguments = it.arguments;
      directives = it.directives;
      selection_set = it.selection_set;
      location = it.location;
      definition = it.definition;
    }

    abbrev pub inline_step : InlineFragment-F (List Selection) Field InlineFragment SelectionSet → InlineFragment
    inline_step it = record {
      type_condition = it.type_condition;
      directives = it.directives;
      selection_set = it.selection_set;
      location = it.location;
    }

    abbrev pub set_step : SelectionSet-F (List Selection) Field InlineFragment SelectionSet → SelectionSet
    set_step it = record { ty = it.ty; selections = joined it.selections }

    -- what stands in the place of a selection, where this is inside each fragment
    abbrev pub expand_one : Selection → List Selection
    expand_one = fold-Selection (List Selection) Field InlineFragment SelectionSet selection_step field_step inline_step set_step

    abbrev pub expand_all : List Selection → List Selection
    expand_all selections = joined (map expand_one selections)

  -- what a fragment selects, with at most n fragments inside one another
  abbrev pub contents_within : ℕ → Fragment → List Selection
  contents_within zero fragment = []
  contents_within (suc n) fragment = expand_all (contents_within n) fragment.selection_set.selections

  -- Where no fragment leads back to itself, no more are inside one another than there are.
  unfoldable pub contents : Fragment → List Selection
  contents fragment = contents_within (suc (length fragments)) fragment

  -- selections with each spread replaced, at every depth
  abbrev pub expanded : List Selection → List Selection
  expanded selections = expand_all contents selections

  abbrev pub expanded_set : SelectionSet → SelectionSet
  expanded_set set = record set { selections = expanded set.selections }

  abbrev pub expanded_operation : Operation → Operation
  expanded_operation operation = record operation { selection_set = expanded_set operation.selection_set }
