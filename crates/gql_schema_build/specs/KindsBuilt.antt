-- The type of a definition of each kind, and the faults in it: of each name the first part stays, and the others are faults.
use Rattle.std.specs.Prelude.{List, [], ◌++◌}
use Rattle.gql_ast.specs.declared.type_definition.ScalarTypeDefinition.{ScalarTypeDefinition}
use Rattle.gql_ast.specs.declared.type_definition.ObjectTypeDefinition.{ObjectTypeDefinition}
use Rattle.gql_ast.specs.declared.type_definition.InterfaceTypeDefinition.{InterfaceTypeDefinition}
use Rattle.gql_ast.specs.declared.type_definition.UnionTypeDefinition.{UnionTypeDefinition}
use Rattle.gql_ast.specs.declared.type_definition.EnumTypeDefinition.{EnumTypeDefinition}
use Rattle.gql_ast.specs.declared.type_definition.InputObjectTypeDefinition.{InputObjectTypeDefinition}
use Rattle.gql_diag_messages.specs.declared.diagnostic_data.DiagnosticData.{DiagnosticData}
use Rattle.gql_schema_types.specs.Entries.{joined}
use Rattle.gql_schema_types.specs.declared.types.ScalarType.{ScalarType}
use Rattle.gql_schema_types.specs.declared.types.ObjectType.{ObjectType}
use Rattle.gql_schema_types.specs.declared.types.InterfaceType.{InterfaceType}
use Rattle.gql_schema_types.specs.declared.types.UnionType.{UnionType}
use Rattle.gql_schema_types.specs.declared.types.EnumType.{EnumType}
use Rattle.gql_schema_types.specs.declared.types.InputObjectType.{InputObjectType}
use Rattle.gql_schema_build.specs.DuplicateImplementsInterfaceInObject.{duplicate_interfaces_in_object}
use Rattle.gql_schema_build.specs.DuplicateImplementsInterfaceInInterface.{duplicate_interfaces_in_interface}
use Rattle.gql_schema_build.specs.Faults.{names_once}
use Rattle.gql_schema_build.specs.InterfaceFieldNameCollision.{interface_field_name_collisions}
use Rattle.gql_schema_build.specs.ObjectFieldNameCollision.{object_field_name_collisions}
use Rattle.gql_schema_build.specs.PartNames.{field_name, input_name, value_name}

abbrev pub scalar_type : ScalarTypeDefinition → ScalarType
scalar_type d = record { description = d.description; name = d.name; directives = d.directives; location = d.location }

abbrev pub object_type : ObjectTypeDefinition → ObjectType
object_type d = record {
  description = d.description;
  name = d.name;
  implements_interfaces = names_once d.implements_interfaces;
  directives = d.directives;
  fields = joined field_name [] d.fields;
  location = d.location;
}

abbrev pub interface_type : InterfaceTypeDefinition → InterfaceType
interface_type d = record {
  description = d.description;
  name = d.name;
  implements_interfaces = names_once d.implements_interfaces;
  directives = d.directives;
  fields = joined field_name [] d.fields;
  location = d.location;
}

abbrev pub union_type : UnionTypeDefinition → UnionType
union_type d = record {
  description = d.description;
  name = d.name;
  directives = d.directives;
  members = names_once d.members;
  location = d.location;
}

abbrev pub enum_type : EnumTypeDefinition → EnumType
enum_type d = record {
  description = d.description;
  name = d.name;
  directives = d.directives;
  values = joined value_name [] d.values;
  location = d.location;
}

abbrev pub input_object_type : InputObjectTypeDefinition → InputObjectType
input_object_type d = record {
  description = d.description;
  name = d.name;
  directives = d.directives;
  fields = joined input_name [] d.fields;
  location = d.location;
}

abbrev pub object_faults : ObjectTypeDefinition → List DiagnosticData
object_faults d = duplicate_interfaces_in_object d.name.text d.implements_interfaces ++ object_field_name_collisions d.name.text d.fields

abbrev pub interface_faults : InterfaceTypeDefinition → List DiagnosticData
interface_faults d = duplicate_interfaces_in_interface d.name.text d.implements_interfaces ++ interface_field_name_collisions d.name.text d.fields
