-- A fragment is on an object, an interface or a union: section 5.5.1.3 of GraphQL October 2021.
use Rattle.std.specs.Prelude.{ℕ, List, [], ◌∷◌, Option, None}
use Rattle.std.specs.Option.{option_map_or}
use Rattle.gql_source.specs.Span.{Span}
use Rattle.gql_ast_base.specs.Names.{Named}
use Rattle.gql_diag_messages.specs.declared.rule.Rule.TheVariants.{InvalidFragmentTarget}
use Rattle.gql_diag_messages.specs.declared.diagnostic_data.DiagnosticData.{DiagnosticData}
use Rattle.gql_rules_values.specs.Faults.{fault, only_if}
use Rattle.gql_rules_nodes.specs.Nodes.{FragmentNode, InlineNode}
use Rattle.gql_schema_types.specs.declared.types.ExtendedType.{ExtendedType}
use Rattle.gql_rules_nodes.specs.Composite.{is_of_other_kind}

module _ (types : List ExtendedType) where
  abbrev pub invalid_target : List ℕ → List ℕ → Option Span → List DiagnosticData
  invalid_target name condition place = only_if (is_of_other_kind types condition) (fault InvalidFragmentTarget (name ∷ condition ∷ []) place None)

  -- a fragment on a type of another kind
  abbrev pub fragment_target : FragmentNode → List DiagnosticData
  fragment_target node = invalid_target node.name.text node.ty.text node.location

  -- an inline fragment, which has no name, on such a type
  abbrev pub inline_target : InlineNode → List DiagnosticData
  inline_target node = option_map_or (λ (condition : Named). invalid_target [] condition.text node.location) node.type_condition []
