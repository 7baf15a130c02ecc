-- A subscription has one root field: section 5.2.3.1 of GraphQL October 2021.
use Rattle.std.specs.Prelude.{ℕ, Bool, false, not, List, [], ◌∷◌, None, if◌then◌else◌}
use Rattle.std.specs.List.{flat_map, list_any}
use Rattle.std.specs.Option.{option_map_or}
use Rattle.std.specs.Str.{bytes_eq}
use Rattle.gql_ast_base.specs.Names.{Named}
use Rattle.gql_ast.specs.declared.operation.OperationDefinition.{OperationDefinition}
use Rattle.gql_ast.specs.declared.selection.Field.{Field}
use Rattle.gql_ast.specs.declared.selection.InlineFragment.{InlineFragment}
use Rattle.gql_ast.specs.declared.selection.Selection.{Selection, out-Selection}
use Rattle.gql_ast.specs.declared.selection.Selection.TheOpen.{Selection-F}
use Rattle.gql_diag_messages.specs.declared.rule.Rule.TheVariants.{SubscriptionUsesMultipleFields}
use Rattle.gql_diag_messages.specs.declared.diagnostic_data.DiagnosticData.{DiagnosticData}
use Rattle.gql_document.specs.Faults.{fault, operation_text}

-- the key of a field in a response: its alias, or else its name (section 2.7)
abbrev pub response_key : Field → List ℕ
response_key field = option_map_or (λ (alias : Named). alias.text) field.alias field.name.text

abbrev pub key_step : Selection-F Selection Field InlineFragment → List (List ℕ)
key_step (Selection-F.Field field) = response_key field ∷ []
key_step (Selection-F.FragmentSpread _) = []
key_step (Selection-F.InlineFragment _) = []

abbrev pub key_of : Selection → List (List ℕ)
key_of selection = key_step (out-Selection selection)

-- the response keys of the fields among selections
abbrev pub response_keys : List Selection → List (List ℕ)
response_keys roots = flat_map key_of roots

abbrev pub are_different : List (List ℕ) → Bool
are_different [] = false
are_different (key ∷ keys) = list_any (λ other. not (bytes_eq key other)) keys

-- more than one response key at the root
abbrev pub subscription_uses_multiple_fields : OperationDefinition → List Selection → List DiagnosticData
subscription_uses_multiple_fields operation roots =
    if are_different (response_keys roots) then fault SubscriptionUsesMultipleFields (operation_text operation ∷ []) operation.location None ∷ [] else []
