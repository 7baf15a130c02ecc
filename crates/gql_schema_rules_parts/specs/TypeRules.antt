-- What is wrong with types by themselves: sections 3.5 to 3.10 of GraphQL October 2021.
-- What is built in is passed over, and what an extension adds to it is not.
use Rattle.std.specs.Prelude.{List, [], ◌++◌, Option, if◌then◌else◌}
use Rattle.std.specs.List.{flat_map}
use Rattle.gql_source.specs.Span.{Span}
use Rattle.gql_ast_base.specs.Names.{Named}
use Rattle.gql_ast.specs.declared.schema_definition.DirectiveLocation.TheVariants as at
use Rattle.gql_diag_messages.specs.declared.diagnostic_data.DiagnosticData.{DiagnosticData}
use Rattle.gql_rules_values.specs.Written.{is_written}
use Rattle.gql_rules_values.specs.declared.known.Defined.TheVariants.{TypesAndScalars}
use Rattle.gql_rules_values.specs.Directives.{directive_faults}
use Rattle.gql_schema_rules_parts.specs.EmptyFieldSet.{empty_field_set}
use Rattle.gql_schema_rules_parts.specs.EmptyInputValueSet.{empty_input_value_set}
use Rattle.gql_schema_rules_parts.specs.EmptyMemberSet.{empty_member_set}
use Rattle.gql_schema_rules_parts.specs.EmptyValueSet.{empty_value_set}
use Rattle.gql_schema_rules_parts.specs.Fields.{fields_faults, values_faults}
use Rattle.gql_schema_rules_parts.specs.InputValues.{input_fields_faults}
use Rattle.gql_schema_rules_parts.specs.OneOfField.{one_of_fields}
use Rattle.gql_schema_rules_parts.specs.ReservedName.{reserved_name}
use Rattle.gql_schema_rules_parts.specs.UndefinedDefinition.{undefined_definition}
use Rattle.gql_schema_rules_parts.specs.UnionMemberObjectType.{union_member_object_type}
use Rattle.gql_schema_types.specs.declared.schema.Schema.{Schema}
use Rattle.gql_schema_types.specs.declared.types.EnumType.{EnumType}
use Rattle.gql_schema_types.specs.declared.types.ExtendedType.{ExtendedType}
use Rattle.gql_schema_types.specs.declared.types.ExtendedType.TheVariants as type
use Rattle.gql_schema_types.specs.declared.types.InputObjectType.{InputObjectType}
use Rattle.gql_schema_types.specs.declared.types.InterfaceType.{InterfaceType}
use Rattle.gql_schema_types.specs.declared.types.ObjectType.{ObjectType}
use Rattle.gql_schema_types.specs.declared.types.ScalarType.{ScalarType}
use Rattle.gql_schema_types.specs.declared.types.UnionType.{UnionType}

-- the name of a type that is not built in
abbrev pub name_faults : Option Span → Named → List DiagnosticData
name_faults place name = if is_written place then reserved_name name else []

-- what is said of a type that is not built in
abbrev pub if_written : Option Span → List DiagnosticData → List DiagnosticData
if_written place faults = if is_written place then faults else []

module _ (schema : Schema) where
  -- an interface that is listed
  abbrev pub listed_name_faults : Named → List DiagnosticData
  listed_name_faults name = if_written name.location (undefined_definition schema.types name)

  abbrev pub listed_names_faults : List Named → List DiagnosticData
  listed_names_faults names = flat_map listed_name_faults names

  abbrev pub member_faults : Named → List DiagnosticData
  member_faults name = if_written name.location (undefined_definition schema.types name ++ union_member_object_type schema.types name)

  abbrev pub members_faults : List Named → List DiagnosticData
  members_faults names = flat_map member_faults names

  abbrev pub scalar_faults : ScalarType → List DiagnosticData
  scalar_faults it = name_faults it.location it.name ++ directive_faults TypesAndScalars schema.types at.Scalar schema.directive_definitions it.directives

  abbrev pub object_faults : ObjectType → List DiagnosticData
  object_faults it =
      name_faults it.location it.name
      ++ (if_written it.location (empty_field_set it.name it.fields)
      ++ (directive_faults TypesAndScalars schema.types at.Object schema.directive_definitions it.directives
      ++ (listed_names_faults it.implements_interfaces ++ fields_faults schema it.fields)))

  abbrev pub interface_faults : InterfaceType → List DiagnosticData
  interface_faults it =
      name_faults it.location it.name
      ++ (if_written it.location (empty_field_set it.name it.fields)
      ++ (directive_faults TypesAndScalars schema.types at.Interface schema.directive_definitions it.directives
      ++ (listed_names_faults it.implements_interfaces ++ fields_faults schema it.fields)))

  abbrev pub union_faults : UnionType → List DiagnosticData
  union_faults it =
      name_faults it.location it.name
      ++ (if_written it.location (empty_member_set it.name it.members)
      ++ (directive_faults TypesAndScalars schema.types at.Union schema.directive_definitions it.directives ++ members_faults it.members))

  abbrev pub enum_faults : EnumType → List DiagnosticData
  enum_faults it =
      name_faults it.location it.name
      ++ (if_written it.location (empty_value_set it.name it.values)
      ++ (directive_faults TypesAndScalars schema.types at.Enum schema.directive_definitions it.directives ++ values_faults schema it.values))

  abbrev pub input_object_faults : InputObjectType → List DiagnosticData
  input_object_faults it =
      name_faults it.location it.name
      ++ (if_written it.location (empty_input_value_set it.name it.fields)
      ++ (directive_faults TypesAndScalars schema.types at.InputObject schema.directive_definitions it.directives
      ++ (input_fields_faults schema it.fields ++ one_of_fields it)))

  abbrev pub type_faults : ExtendedType → List DiagnosticData
  type_faults (type.Scalar it) = scalar_faults it
  type_faults (type.Object it) = object_faults it
  type_faults (type.Interface it) = interface_faults it
  type_faults (type.Union it) = union_faults it
  type_faults (type.Enum it) = enum_faults it
  type_faults (type.InputObject it) = input_object_faults it

  -- what is wrong with the types, each by itself
  abbrev pub types_faults : List DiagnosticData
  types_faults = flat_map type_faults schema.types
