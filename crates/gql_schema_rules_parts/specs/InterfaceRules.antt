-- What is wrong with types as implementations of interfaces: sections 3.6 and 3.7 of GraphQL October 2021.
use Rattle.std.specs.Prelude.{List, [], ◌∷◌, ◌++◌, is_some, if◌then◌else◌}
use Rattle.std.specs.List.{flat_map}
use Rattle.std.specs.Option.{option_map_or}
use Rattle.gql_ast_base.specs.Names.{Named}
use Rattle.gql_ast.specs.declared.field_definition.FieldDefinition.{FieldDefinition}
use Rattle.gql_ast.specs.declared.field_definition.InputValueDefinition.{InputValueDefinition}
use Rattle.gql_diag_messages.specs.declared.diagnostic_data.DiagnosticData.{DiagnosticData}
use Rattle.gql_rules_values.specs.Written.{is_written}
use Rattle.gql_schema_rules_parts.specs.Arguments.{argument_called}
use Rattle.gql_schema_rules_parts.specs.ExtraRequiredImplementationFieldArgument.{extra_required_implementation_field_argument}
use Rattle.gql_schema_rules_parts.specs.InvalidImplementationFieldArgumentType.{invalid_implementation_field_argument_type}
use Rattle.gql_schema_rules_parts.specs.InvalidImplementationFieldType.{invalid_implementation_field_type}
use Rattle.gql_schema_rules_parts.specs.MissingInterfaceField.{missing_interface_field}
use Rattle.gql_schema_rules_parts.specs.MissingInterfaceFieldArgument.{missing_interface_field_argument}
use Rattle.gql_schema_rules_parts.specs.TransitiveImplementedInterfaces.{transitive_implemented_interfaces}
use Rattle.gql_schema_types.specs.Entries.{entry}
use Rattle.gql_schema_types.specs.Types.{type_called, field_name}
use Rattle.gql_schema_types.specs.declared.types.ExtendedType.{ExtendedType}
use Rattle.gql_schema_types.specs.declared.types.ExtendedType.TheVariants.{Object, Interface}

-- a type of this name, as an implementation of an interface of that name
module _ (ty interface : Named) where
  -- a further argument of the field of the type
  abbrev pub extra_argument_faults : FieldDefinition → FieldDefinition → List InputValueDefinition → InputValueDefinition → List DiagnosticData
  extra_argument_faults wanted field earlier argument =
      if is_some (argument_called earlier argument.name.text) then [] else extra_required_implementation_field_argument ty interface wanted field argument

  abbrev pub extra_after : FieldDefinition → FieldDefinition → List InputValueDefinition → List InputValueDefinition → List DiagnosticData
  extra_after wanted field earlier [] = []
  extra_after wanted field earlier (argument ∷ rest) =
      extra_argument_faults wanted field earlier argument ++ extra_after wanted field (earlier ++ argument ∷ []) rest

module _ (types : List ExtendedType) (ty interface : Named) where
  -- an argument of the field of the interface, at the field of the type; what comes second of a name is not looked at
  abbrev pub wanted_argument_faults : FieldDefinition → List InputValueDefinition → InputValueDefinition → List DiagnosticData
  wanted_argument_faults field earlier wanted =
      if is_some (argument_called earlier wanted.name.text) then []
      else option_map_or (invalid_implementation_field_argument_type types ty interface field wanted) (argument_called field.arguments wanted.name.text)
      (missing_interface_field_argument ty interface field wanted ∷ [])

  abbrev pub wanted_after : FieldDefinition → List InputValueDefinition → List InputValueDefinition → List DiagnosticData
  wanted_after field earlier [] = []
  wanted_after field earlier (wanted ∷ rest) = wanted_argument_faults field earlier wanted ++ wanted_after field (earlier ++ wanted ∷ []) rest

  abbrev pub arguments_faults : FieldDefinition → FieldDefinition → List DiagnosticData
  arguments_faults wanted field = wanted_after field [] wanted.arguments ++ extra_after ty interface wanted field [] field.arguments

  -- a field of the interface, and the field of the type
  abbrev pub both_faults : FieldDefinition → FieldDefinition → List DiagnosticData
  both_faults wanted field = invalid_implementation_field_type types ty interface wanted field ++ arguments_faults wanted field

  -- a field of the interface, where the type has these fields
  abbrev pub field_faults : List FieldDefinition → FieldDefinition → List DiagnosticData
  field_faults fields wanted =
      option_map_or (both_faults wanted) (entry field_name wanted.name.text fields) (missing_interface_field ty interface wanted ∷ [])

-- a type of this name with these fields
module _ (types : List ExtendedType) (ty : Named) (fields : List FieldDefinition) where
  abbrev pub implementation_faults : ExtendedType → List DiagnosticData
  implementation_faults (Interface it) = flat_map (field_faults types ty it.name fields) it.fields
  implementation_faults _ = []

  -- an interface that is listed, and not by a built-in definition
  abbrev pub listed_faults : Named → List DiagnosticData
  listed_faults name = if is_written name.location then option_map_or implementation_faults (type_called name.text types) [] else []

  abbrev pub implementations_faults : List Named → List DiagnosticData
  implementations_faults listed = flat_map listed_faults listed ++ transitive_implemented_interfaces types ty listed

module _ (types : List ExtendedType) where
  abbrev pub type_faults : ExtendedType → List DiagnosticData
  type_faults (Object it) = implementations_faults types it.name it.fields it.implements_interfaces
  type_faults (Interface it) = implementations_faults types it.name it.fields it.implements_interfaces
  type_faults _ = []

  abbrev pub interfaces_faults : List DiagnosticData
  interfaces_faults = flat_map type_faults types
