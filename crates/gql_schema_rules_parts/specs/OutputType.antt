-- A field is of an output type: sections 3.4.2, 3.6 and 3.7 of GraphQL October 2021.
use Rattle.std.specs.Prelude.{Bool, true, false, List, [], ◌∷◌, None}
use Rattle.std.specs.Option.{option_map_or}
use Rattle.gql_ast.specs.declared.field_definition.FieldDefinition.{FieldDefinition}
use Rattle.gql_diag_messages.specs.declared.rule.Rule.TheVariants.{OutputType}
use Rattle.gql_diag_messages.specs.declared.diagnostic_data.DiagnosticData.{DiagnosticData}
use Rattle.gql_rules_values.specs.Faults.{fault, only_if}
use Rattle.gql_ast_base.specs.TypeParts.{named_type}
use Rattle.gql_schema_types.specs.Types.{type_called}
use Rattle.gql_schema_types.specs.declared.types.ExtendedType.{ExtendedType}
use Rattle.gql_schema_types.specs.declared.types.ExtendedType.TheVariants as type

abbrev pub is_input_object : ExtendedType → Bool
is_input_object (type.InputObject it) = true
is_input_object _ = false

abbrev pub output_type : List ExtendedType → FieldDefinition → List DiagnosticData
output_type types field =
    only_if (option_map_or is_input_object (type_called (named_type field.ty).text types) false) (fault OutputType (field.name.text ∷ []) field.location None)
