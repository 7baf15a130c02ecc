-- The root field of a subscription is no field of introspection: section 5.2.3.1 of GraphQL October 2021.
use Rattle.std.specs.Prelude.{ℕ, Bool, List, [], ◌∷◌, None, nat_eq, codes, if◌then◌else◌}
use Rattle.std.specs.List.{flat_map, starts_with}
use Rattle.gql_ast.specs.declared.operation.OperationDefinition.{OperationDefinition}
use Rattle.gql_ast.specs.declared.selection.Field.{Field}
use Rattle.gql_ast.specs.declared.selection.InlineFragment.{InlineFragment}
use Rattle.gql_ast.specs.declared.selection.Selection.{Selection, out-Selection}
use Rattle.gql_ast.specs.declared.selection.Selection.TheOpen.{Selection-F}
use Rattle.gql_diag_messages.specs.declared.rule.Rule.TheVariants.{SubscriptionUsesIntrospection}
use Rattle.gql_diag_messages.specs.declared.diagnostic_data.DiagnosticData.{DiagnosticData}
use Rattle.gql_document.specs.Faults.{fault, operation_text}

-- a name that begins with two underscores (section 2.1.9)
abbrev pub is_introspection : List ℕ → Bool
is_introspection name = starts_with nat_eq name (codes "__")

abbrev pub introspection_field : OperationDefinition → Field → List DiagnosticData
introspection_field operation field =
    if is_introspection field.name.text then fault SubscriptionUsesIntrospection (operation_text operation ∷ []) field.location None ∷ [] else []

abbrev pub introspection_step : OperationDefinition → Selection-F Selection Field InlineFragment → List DiagnosticData
introspection_step operation (Selection-F.Field field) = introspection_field operation field
introspection_step operation (Selection-F.FragmentSpread _) = []
introspection_step operation (Selection-F.InlineFragment _) = []

abbrev pub introspection_at : OperationDefinition → Selection → List DiagnosticData
introspection_at operation selection = introspection_step operation (out-Selection selection)

-- one for each field at the root with such a name
abbrev pub subscription_uses_introspection : OperationDefinition → List Selection → List DiagnosticData
subscription_uses_introspection operation roots = flat_map (introspection_at operation) roots
