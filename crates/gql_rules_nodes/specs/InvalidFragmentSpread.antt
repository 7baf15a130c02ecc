-- A fragment stands where objects of its type can be: section 5.5.2.3 of GraphQL October 2021.
use Rattle.std.specs.Prelude.{ℕ, not, List, [], ◌∷◌, Option, None}
use Rattle.std.specs.Option.{option_map_or}
use Rattle.gql_source.specs.Span.{Span}
use Rattle.gql_ast_base.specs.Names.{Named}
use Rattle.gql_diag_messages.specs.declared.rule.Rule.TheVariants.{InvalidFragmentSpread}
use Rattle.gql_diag_messages.specs.declared.diagnostic_data.DiagnosticData.{DiagnosticData}
use Rattle.gql_document_types.specs.RootFields.{fragment_name}
use Rattle.gql_document_types.specs.declared.fragment.Fragment.{Fragment}
use Rattle.gql_rules_values.specs.Faults.{fault, only_if}
use Rattle.gql_rules_nodes.specs.Nodes.{SpreadNode, InlineNode}
use Rattle.gql_schema_types.specs.Entries.{entry}
use Rattle.gql_schema_types.specs.declared.types.ExtendedType.{ExtendedType}
use Rattle.gql_rules_nodes.specs.PossibleTypes.{can_meet}

module _ (types : List ExtendedType) where
  abbrev pub invalid_spread : List ℕ → List ℕ → List ℕ → Option Span → List DiagnosticData
  invalid_spread name parent condition place =
      only_if (not (can_meet types parent condition)) (fault InvalidFragmentSpread (name ∷ parent ∷ condition ∷ []) place None)

  -- a spread of a fragment that is defined
  module _ (fragments : List Fragment) where
    abbrev pub spread_at : List ℕ → List ℕ → Option Span → List DiagnosticData
    spread_at parent name place =
        option_map_or (λ (fragment : Fragment). invalid_spread name parent fragment.selection_set.ty.text place) (entry fragment_name name fragments) []

    abbrev pub fragment_spread : SpreadNode → List DiagnosticData
    fragment_spread node = spread_at node.parent.text node.fragment_name.text node.location

  -- an inline fragment that has a condition
  abbrev pub inline_spread : InlineNode → List DiagnosticData
  inline_spread node = option_map_or (λ (condition : Named). invalid_spread [] node.parent.text condition.text node.location) node.type_condition []
