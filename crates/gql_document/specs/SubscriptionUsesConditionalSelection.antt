-- No selection at the root of a subscription is left out on a condition, as later versions of the standard have it: section 5.2.3.1
-- of GraphQL October 2021.
use Rattle.std.specs.Prelude.{Bool, ◌||◌, List, [], ◌∷◌, None, Option, codes, if◌then◌else◌}
use Rattle.std.specs.List.{flat_map, list_any}
use Rattle.std.specs.Str.{bytes_eq}
use Rattle.gql_source.specs.Span.{Span}
use Rattle.gql_ast.specs.declared.operation.OperationDefinition.{OperationDefinition}
use Rattle.gql_ast.specs.declared.selection.Field.{Field}
use Rattle.gql_ast.specs.declared.selection.InlineFragment.{InlineFragment}
use Rattle.gql_ast.specs.declared.selection.Selection.{Selection, out-Selection}
use Rattle.gql_ast.specs.declared.selection.Selection.TheOpen.{Selection-F}
use Rattle.gql_ast_base.specs.declared.directive.Directive.{Directive}
use Rattle.gql_diag_messages.specs.declared.rule.Rule.TheVariants.{SubscriptionUsesConditionalSelection}
use Rattle.gql_diag_messages.specs.declared.diagnostic_data.DiagnosticData.{DiagnosticData}
use Rattle.gql_document.specs.Faults.{fault, operation_text}

-- `@skip` or `@include` (section 3.13)
abbrev pub is_conditional : Directive → Bool
is_conditional directive = bytes_eq directive.name.text (codes "skip") || bytes_eq directive.name.text (codes "include")

abbrev pub conditional : OperationDefinition → List Directive → Option Span → List DiagnosticData
conditional operation directives location =
    if list_any is_conditional directives then fault SubscriptionUsesConditionalSelection (operation_text operation ∷ []) location None ∷ [] else []

abbrev pub conditional_step : OperationDefinition → Selection-F Selection Field InlineFragment → List DiagnosticData
conditional_step operation (Selection-F.Field it) = conditional operation it.directives it.location
conditional_step operation (Selection-F.FragmentSpread it) = conditional operation it.directives it.location
conditional_step operation (Selection-F.InlineFragment it) = conditional operation it.directives it.location

abbrev pub conditional_at : OperationDefinition → Selection → List DiagnosticData
conditional_at operation selection = conditional_step operation (out-Selection selection)

-- one for each selection at the root with such a directive
abbrev pub subscription_uses_conditional_selection : OperationDefinition → List Selection → List DiagnosticData
subscription_uses_conditional_selection operation roots = flat_map (conditional_at operation) roots
