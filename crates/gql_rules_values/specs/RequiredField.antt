-- A literal at an input object type gives each field that has to be given: section 5.6.4 of GraphQL October 2021.
use Rattle.std.specs.Prelude.{◌&&◌, not, List, [], ◌∷◌, None}
use Rattle.std.specs.List.{flat_map, list_any}
use Rattle.std.specs.Str.{bytes_eq}
use Rattle.gql_ast_base.specs.Names.{Named}
use Rattle.gql_ast.specs.declared.field_definition.InputValueDefinition.{InputValueDefinition}
use Rattle.gql_ast.specs.TypeText.{type_text}
use Rattle.gql_ast_base.specs.declared.value.Value.{Value}
use Rattle.gql_diag_messages.specs.declared.rule.Rule.TheVariants.{RequiredField}
use Rattle.gql_diag_messages.specs.declared.diagnostic_data.DiagnosticData.{DiagnosticData}
use Rattle.gql_rules_values.specs.Faults.{fault, only_if}
use Rattle.gql_rules_values.specs.TypeShape.{is_required}

module _ (literal : Value) (members : List (Named × Value)) where
  -- a field that has to be given and is not, told at the whole literal
  abbrev pub required_field : InputValueDefinition → List DiagnosticData
  required_field field =
      only_if (is_required field && not (list_any (λ (member : Named × Value). bytes_eq field.name.text member.0.text) members))
      (fault RequiredField (field.name.text ∷ type_text field.ty ∷ []) literal.location None)

  abbrev pub required_fields : List InputValueDefinition → List DiagnosticData
  required_fields fields = flat_map required_field fields
