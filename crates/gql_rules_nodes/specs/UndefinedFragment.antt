-- A fragment that is spread is defined: section 5.5.2.1 of GraphQL October 2021.
use Rattle.std.specs.Prelude.{not, is_some, List, [], ◌∷◌, ◌++◌, map, None}
use Rattle.std.specs.List.{flat_map}
use Rattle.gql_diag_messages.specs.declared.rule.Rule.TheVariants.{UndefinedFragment}
use Rattle.gql_diag_messages.specs.declared.diagnostic_data.DiagnosticData.{DiagnosticData}
use Rattle.gql_document_types.specs.RootFields.{fragment_name}
use Rattle.gql_document_types.specs.declared.document.ExecutableDocument.{ExecutableDocument}
use Rattle.gql_document_types.specs.declared.fragment.Fragment.{Fragment}
use Rattle.gql_document_types.specs.declared.operation.Operation.{Operation}
use Rattle.gql_document_types.specs.declared.selection.FragmentSpread.{FragmentSpread}
use Rattle.gql_document_types.specs.declared.selection.Selection.{Selection, fold-Selection}
use Rattle.gql_document_types.specs.declared.selection.Selection.TheOpen.{Selection-F, Field-F, InlineFragment-F, SelectionSet-F}
use Rattle.gql_rules_values.specs.Faults.{fault, only_if}
use Rattle.gql_schema_types.specs.Entries.{entry}

abbrev pub Spreads : Type 0
Spreads = List FragmentSpread

abbrev pub selection_step : Selection-F Spreads Spreads Spreads Spreads → Spreads
selection_step (Selection-F.Field spreads) = spreads
selection_step (Selection-F.FragmentSpread it) = it ∷ []
selection_step (Selection-F.InlineFragment spreads) = spreads

abbrev pub field_step : Field-F Spreads Spreads Spreads Spreads → Spreads
field_step it = it.selection_set

abbrev pub inline_step : InlineFragment-F Spreads Spreads Spreads Spreads → Spreads
inline_step it = it.selection_set

abbrev pub set_step : SelectionSet-F Spreads Spreads Spreads Spreads → Spreads
set_step it = flat_map (λ spreads. spreads) it.selections

-- the spreads in a selection, at every depth and in order
abbrev pub spreads_at : Selection → Spreads
spreads_at = fold-Selection Spreads Spreads Spreads Spreads selection_step field_step inline_step set_step

abbrev pub spreads_of : List Selection → Spreads
spreads_of selections = flat_map (λ spreads. spreads) (map spreads_at selections)

module _ (fragments : List Fragment) where
  -- a spread of a fragment that is not defined
  abbrev pub undefined_fragment : FragmentSpread → List DiagnosticData
  undefined_fragment spread =
      only_if (not (is_some (entry fragment_name spread.fragment_name.text fragments)))
      (fault UndefinedFragment (spread.fragment_name.text ∷ []) spread.location None)

  abbrev pub in_spreads : Spreads → List DiagnosticData
  in_spreads spreads = flat_map undefined_fragment spreads

  abbrev pub in_selections : List Selection → List DiagnosticData
  in_selections selections = in_spreads (spreads_of selections)

  abbrev pub in_operation : Operation → List DiagnosticData
  in_operation operation = in_selections operation.selection_set.selections

  abbrev pub in_fragment : Fragment → List DiagnosticData
  in_fragment fragment = in_selections fragment.selection_set.selections

-- in operations, and then in fragments
abbrev pub undefined_fragments : ExecutableDocument → List DiagnosticData
undefined_fragments document =
    flat_map (in_operation document.fragments) document.operations ++ flat_map (in_fragment document.fragments) document.fragments
