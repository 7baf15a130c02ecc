-- An argument is of the type of the argument of an interface: sections 3.6 and 3.7 of GraphQL October 2021,
-- "IsValidImplementation".
use Rattle.std.specs.Prelude.{◌&&◌, not, List, [], ◌∷◌, None}
use Rattle.gql_ast_base.specs.Names.{Named}
use Rattle.gql_ast.specs.declared.field_definition.FieldDefinition.{FieldDefinition}
use Rattle.gql_ast.specs.declared.field_definition.InputValueDefinition.{InputValueDefinition}
use Rattle.gql_ast.specs.TypeText.{type_text}
use Rattle.gql_diag_messages.specs.declared.rule.Rule.TheVariants.{InvalidImplementationFieldArgumentType}
use Rattle.gql_diag_messages.specs.declared.diagnostic_data.DiagnosticData.{DiagnosticData}
use Rattle.gql_rules_values.specs.Faults.{fault, only_if}
use Rattle.gql_schema_rules_parts.specs.Subtypes.{are_known, is_same_type}
use Rattle.gql_schema_types.specs.declared.types.ExtendedType.{ExtendedType}

abbrev pub misfit : Named → Named → FieldDefinition → InputValueDefinition → InputValueDefinition → DiagnosticData
misfit ty interface field wanted argument =
    fault InvalidImplementationFieldArgumentType
    (ty.text ∷ interface.text ∷ field.name.text ∷ argument.name.text ∷ type_text wanted.ty ∷ type_text argument.ty ∷ []) argument.location None

-- an argument of another type, told at the argument
abbrev pub invalid_implementation_field_argument_type :
    List ExtendedType → Named → Named → FieldDefinition → InputValueDefinition → InputValueDefinition → List DiagnosticData
invalid_implementation_field_argument_type types ty interface field wanted argument =
    only_if (are_known types wanted.ty argument.ty && not (is_same_type wanted.ty argument.ty)) (misfit ty interface field wanted argument)
