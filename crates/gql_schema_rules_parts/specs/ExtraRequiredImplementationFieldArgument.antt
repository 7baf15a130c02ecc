-- An argument that the field of an interface does not have may be left out: sections 3.6 and 3.7 of GraphQL October 2021,
-- "IsValidImplementation".
use Rattle.std.specs.Prelude.{Bool, ◌&&◌, List, [], ◌∷◌, None, is_none}
use Rattle.gql_ast_base.specs.Names.{Named}
use Rattle.gql_ast.specs.declared.field_definition.FieldDefinition.{FieldDefinition}
use Rattle.gql_ast.specs.declared.field_definition.InputValueDefinition.{InputValueDefinition}
use Rattle.gql_diag_messages.specs.declared.rule.Rule.TheVariants.{ExtraRequiredImplementationFieldArgument}
use Rattle.gql_diag_messages.specs.declared.diagnostic_data.DiagnosticData.{DiagnosticData}
use Rattle.gql_rules_values.specs.Faults.{fault, only_if}
use Rattle.gql_rules_values.specs.TypeShape.{is_required}
use Rattle.gql_schema_rules_parts.specs.Arguments.{argument_called}

abbrev pub is_extra : FieldDefinition → InputValueDefinition → Bool
is_extra wanted argument = is_required argument && is_none (argument_called wanted.arguments argument.name.text)

-- a further argument that has to be given, told at the argument
abbrev pub extra_required_implementation_field_argument :
    Named → Named → FieldDefinition → FieldDefinition → InputValueDefinition → List DiagnosticData
extra_required_implementation_field_argument ty interface wanted field argument =
    only_if (is_extra wanted argument)
    (fault ExtraRequiredImplementationFieldArgument (ty.text ∷ interface.text ∷ field.name.text ∷ argument.name.text ∷ []) argument.location None)
