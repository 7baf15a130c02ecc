-- A field is of a subtype of the type of the field of an interface: sections 3.6 and 3.7 of GraphQL October 2021,
-- "IsValidImplementation".
use Rattle.std.specs.Prelude.{◌&&◌, not, List, [], ◌∷◌, None}
use Rattle.gql_ast_base.specs.Names.{Named}
use Rattle.gql_ast.specs.declared.field_definition.FieldDefinition.{FieldDefinition}
use Rattle.gql_ast.specs.TypeText.{type_text}
use Rattle.gql_diag_messages.specs.declared.rule.Rule.TheVariants.{InvalidImplementationFieldType}
use Rattle.gql_diag_messages.specs.declared.diagnostic_data.DiagnosticData.{DiagnosticData}
use Rattle.gql_rules_values.specs.Faults.{fault, only_if}
use Rattle.gql_schema_rules_parts.specs.Subtypes.{are_known, is_subtype}
use Rattle.gql_schema_types.specs.declared.types.ExtendedType.{ExtendedType}

abbrev pub misfit : Named → Named → FieldDefinition → FieldDefinition → DiagnosticData
misfit ty interface wanted field =
    fault InvalidImplementationFieldType (ty.text ∷ interface.text ∷ field.name.text ∷ type_text wanted.ty ∷ type_text field.ty ∷ [])
    field.location None

-- a field of a type that is no subtype, told at the field
abbrev pub invalid_implementation_field_type : List ExtendedType → Named → Named → FieldDefinition → FieldDefinition → List DiagnosticData
invalid_implementation_field_type types ty interface wanted field =
    only_if (are_known types wanted.ty field.ty && not (is_subtype types wanted.ty field.ty)) (misfit ty interface wanted field)
