-- An argument or an input field is of an input type: sections 3.4.2, 3.6.1, 3.7, 3.10 and 3.13 of GraphQL October 2021.
use Rattle.std.specs.Prelude.{false, List, [], ◌∷◌, None}
use Rattle.std.specs.Option.{option_map_or}
use Rattle.gql_ast.specs.declared.field_definition.InputValueDefinition.{InputValueDefinition}
use Rattle.gql_diag_messages.specs.declared.rule.Rule.TheVariants.{InputType}
use Rattle.gql_diag_messages.specs.declared.diagnostic_data.DiagnosticData.{DiagnosticData}
use Rattle.gql_rules_values.specs.Faults.{fault, only_if}
use Rattle.gql_ast_base.specs.TypeParts.{named_type}
use Rattle.gql_schema_types.specs.Types.{type_called, is_composite}
use Rattle.gql_schema_types.specs.declared.types.ExtendedType.{ExtendedType}

-- objects, interfaces and unions are no input types
abbrev pub input_type : List ExtendedType → InputValueDefinition → List DiagnosticData
input_type types value =
    only_if (option_map_or is_composite (type_called (named_type value.ty).text types) false) (fault InputType (value.name.text ∷ []) value.location None)
