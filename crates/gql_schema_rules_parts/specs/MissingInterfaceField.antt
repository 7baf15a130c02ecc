-- A type has each field of an interface that it lists: sections 3.6 and 3.7 of GraphQL October 2021, "IsValidImplementation".
-- `field_faults` of InterfaceRules.antt says where it is broken.
use Rattle.std.specs.Prelude.{[], ◌∷◌, None}
use Rattle.gql_ast_base.specs.Names.{Named}
use Rattle.gql_ast.specs.declared.field_definition.FieldDefinition.{FieldDefinition}
use Rattle.gql_diag_messages.specs.declared.rule.Rule.TheVariants.{MissingInterfaceField}
use Rattle.gql_diag_messages.specs.declared.diagnostic_data.DiagnosticData.{DiagnosticData}
use Rattle.gql_rules_values.specs.Faults.{fault}

-- a field of the interface that the type lacks, told at the name of the type
abbrev pub missing_interface_field : Named → Named → FieldDefinition → DiagnosticData
missing_interface_field ty interface wanted = fault MissingInterfaceField (ty.text ∷ interface.text ∷ wanted.name.text ∷ []) ty.location None
