-- The type of a definition, and the faults in it.
use Rattle.std.specs.Prelude.{List, []}
use Rattle.gql_diag_messages.specs.declared.diagnostic_data.DiagnosticData.{DiagnosticData}
use Rattle.gql_schema_types.specs.declared.types.ExtendedType.{ExtendedType}
use Rattle.gql_schema_types.specs.declared.types.ExtendedType.TheVariants as type
use Rattle.gql_schema_build.specs.EnumValueNameCollision.{enum_value_name_collisions}
use Rattle.gql_schema_build.specs.InputFieldNameCollision.{input_field_name_collisions}
use Rattle.gql_schema_build.specs.KindsBuilt.{scalar_type, object_type, interface_type, union_type, enum_type, input_object_type}
use Rattle.gql_schema_build.specs.KindsBuilt.{object_faults, interface_faults}
use Rattle.gql_schema_build.specs.UnionMemberNameCollision.{union_member_name_collisions}
use Rattle.gql_schema_build.specs.declared.type_definition.TypeDefinition.{TypeDefinition}
use Rattle.gql_schema_build.specs.declared.type_definition.TypeDefinition.TheVariants as definition

abbrev pub built : TypeDefinition → ExtendedType
built (definition.Scalar d) = type.Scalar (scalar_type d)
built (definition.Object d) = type.Object (object_type d)
built (definition.Interface d) = type.Interface (interface_type d)
built (definition.Union d) = type.Union (union_type d)
built (definition.Enum d) = type.Enum (enum_type d)
built (definition.InputObject d) = type.InputObject (input_object_type d)

abbrev pub part_faults : TypeDefinition → List DiagnosticData
part_faults (definition.Scalar d) = []
part_faults (definition.Object d) = object_faults d
part_faults (definition.Interface d) = interface_faults d
part_faults (definition.Union d) = union_member_name_collisions d.name.text d.members
part_faults (definition.Enum d) = enum_value_name_collisions d.name.text d.values
part_faults (definition.InputObject d) = input_field_name_collisions d.name.text d.fields
