-- A key in a literal at an input object type is one of its fields: section 5.6.2 of GraphQL October 2021.
use Rattle.std.specs.Prelude.{not, List, [], ◌∷◌, None, is_some}
use Rattle.std.specs.List.{flat_map}
use Rattle.gql_ast_base.specs.Names.{Named}
use Rattle.gql_ast.specs.declared.field_definition.InputValueDefinition.{InputValueDefinition}
use Rattle.gql_ast_base.specs.declared.value.Value.{Value}
use Rattle.gql_diag_messages.specs.declared.rule.Rule.TheVariants.{UndefinedInputValue}
use Rattle.gql_diag_messages.specs.declared.diagnostic_data.DiagnosticData.{DiagnosticData}
use Rattle.gql_rules_values.specs.Faults.{fault, only_if}
use Rattle.gql_schema_types.specs.Entries.{entry}
use Rattle.gql_schema_types.specs.declared.types.InputObjectType.{InputObjectType}

abbrev pub input_name : InputValueDefinition → Named
input_name value = value.name

module _ (it : InputObjectType) (literal : Value) where
  -- a key that is no field of the input object, told at the whole literal
  abbrev pub undefined_key : Named × Value → List DiagnosticData
  undefined_key member =
      only_if (not (is_some (entry input_name member.0.text it.fields)))
      (fault UndefinedInputValue (member.0.text ∷ it.name.text ∷ []) literal.location None)

  abbrev pub undefined_input_values : List (Named × Value) → List DiagnosticData
  undefined_input_values members = flat_map undefined_key members
