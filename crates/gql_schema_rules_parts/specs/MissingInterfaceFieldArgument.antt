-- A field has each argument of the field of an interface: sections 3.6 and 3.7 of GraphQL October 2021, "IsValidImplementation".
-- `wanted_argument_faults` of InterfaceRules.antt says where it is broken.
use Rattle.std.specs.Prelude.{[], ◌∷◌, None}
use Rattle.gql_ast_base.specs.Names.{Named}
use Rattle.gql_ast.specs.declared.field_definition.FieldDefinition.{FieldDefinition}
use Rattle.gql_ast.specs.declared.field_definition.InputValueDefinition.{InputValueDefinition}
use Rattle.gql_diag_messages.specs.declared.rule.Rule.TheVariants.{MissingInterfaceFieldArgument}
use Rattle.gql_diag_messages.specs.declared.diagnostic_data.DiagnosticData.{DiagnosticData}
use Rattle.gql_rules_values.specs.Faults.{fault}

-- an argument of the field of the interface that the field lacks, told at the field
abbrev pub missing_interface_field_argument : Named → Named → FieldDefinition → InputValueDefinition → DiagnosticData
missing_interface_field_argument ty interface field wanted =
    fault MissingInterfaceFieldArgument (ty.text ∷ interface.text ∷ field.name.text ∷ wanted.name.text ∷ []) field.location None
