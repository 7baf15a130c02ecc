-- A variable stands where values of its type may: section 5.8.5 of GraphQL October 2021.
use Rattle.std.specs.Prelude.{Bool, false, ◌&&◌, not, List, [], ◌∷◌, Option, Some, None, if◌then◌else◌}
use Rattle.std.specs.Option.{option_and_then, option_map_or}
use Rattle.gql_ast.specs.declared.operation.VariableDefinition.{VariableDefinition}
use Rattle.gql_ast.specs.TypeText.{type_text}
use Rattle.gql_ast_base.specs.declared.type_ref.TypeRef.{TypeRef}
use Rattle.gql_diag_messages.specs.declared.rule.Rule.TheVariants.{DisallowedVariableUsage}
use Rattle.gql_diag_messages.specs.declared.diagnostic_data.DiagnosticData.{DiagnosticData}
use Rattle.gql_rules_values.specs.Faults.{fault}
use Rattle.gql_rules_values.specs.Known.{is_defined}
use Rattle.gql_ast_base.specs.TypeParts.{named_type}
use Rattle.gql_rules_values.specs.declared.known.Defined.TheVariants.{Types}
use Rattle.gql_rules.specs.TypesInto.{is_allowed}
use Rattle.gql_rules.specs.UndefinedVariable.{variable_called}
use Rattle.gql_rules.specs.Uses.{Place, Use}
use Rattle.gql_schema_types.specs.declared.types.ExtendedType.{ExtendedType}

module _ (types : List ExtendedType) where
  -- both types are defined: a built-in scalar that the schema leaves out is not
  abbrev pub are_defined : TypeRef → TypeRef → Bool
  are_defined variable place = is_defined Types types (named_type variable).text && is_defined Types types (named_type place).text

  abbrev pub breaks : VariableDefinition → Bool → TypeRef → Bool
  breaks variable has_default ty = are_defined variable.ty ty && not (is_allowed variable has_default ty)

  -- where no type is known, nothing is asked
  abbrev pub is_disallowed : Place → VariableDefinition → Bool
  is_disallowed place variable = option_map_or (breaks variable place.has_default) place.ty false

  abbrev pub misfit : Place → VariableDefinition → Option TypeRef
  misfit place variable = if is_disallowed place variable then Some variable.ty else None

  -- the type of the variable that is used, where an operation with these variables defines it and the use is not allowed
  abbrev pub disallowed_type : List VariableDefinition → Use → Option TypeRef
  disallowed_type variables used = option_and_then (misfit used.place) (variable_called variables used.name.text)

-- a variable of the first type at a place of the second
abbrev pub types_fault : Use → TypeRef → TypeRef → List DiagnosticData
types_fault used variable place =
    fault DisallowedVariableUsage (used.name.text ∷ type_text variable ∷ type_text place ∷ []) used.location None ∷ []

abbrev pub disallowed_fault : Use → TypeRef → List DiagnosticData
disallowed_fault used variable = option_map_or (types_fault used variable) used.place.ty []

abbrev pub disallowed_usage : List ExtendedType → List VariableDefinition → Use → List DiagnosticData
disallowed_usage types variables used = option_map_or (disallowed_fault used) (disallowed_type types variables used) []
