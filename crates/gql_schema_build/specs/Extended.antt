-- A definition of a type with what an extension adds is again a definition: sections 3.5 to 3.10 of GraphQL October 2021.
use Rattle.std.specs.Prelude.{◌++◌}
use Rattle.gql_ast.specs.declared.type_definition.ScalarTypeDefinition.{ScalarTypeDefinition}
use Rattle.gql_ast.specs.declared.extension.ScalarTypeExtension.{ScalarTypeExtension}
use Rattle.gql_ast.specs.declared.type_definition.ObjectTypeDefinition.{ObjectTypeDefinition}
use Rattle.gql_ast.specs.declared.extension.ObjectTypeExtension.{ObjectTypeExtension}
use Rattle.gql_ast.specs.declared.type_definition.InterfaceTypeDefinition.{InterfaceTypeDefinition}
use Rattle.gql_ast.specs.declared.extension.InterfaceTypeExtension.{InterfaceTypeExtension}
use Rattle.gql_ast.specs.declared.type_definition.UnionTypeDefinition.{UnionTypeDefinition}
use Rattle.gql_ast.specs.declared.extension.UnionTypeExtension.{UnionTypeExtension}
use Rattle.gql_ast.specs.declared.type_definition.EnumTypeDefinition.{EnumTypeDefinition}
use Rattle.gql_ast.specs.declared.extension.EnumTypeExtension.{EnumTypeExtension}
use Rattle.gql_ast.specs.declared.type_definition.InputObjectTypeDefinition.{InputObjectTypeDefinition}
use Rattle.gql_ast.specs.declared.extension.InputObjectTypeExtension.{InputObjectTypeExtension}
use Rattle.gql_schema_build.specs.declared.type_definition.TypeDefinition.{TypeDefinition}
use Rattle.gql_schema_build.specs.declared.type_definition.TypeDefinition.TheVariants as type
use Rattle.gql_schema_build.specs.declared.type_extension.TypeExtension.{TypeExtension}
use Rattle.gql_schema_build.specs.declared.type_extension.TypeExtension.TheVariants as extension

abbrev pub extended_scalar : ScalarTypeDefinition → ScalarTypeExtension → ScalarTypeDefinition
extended_scalar d e = record d { directives = d.directives ++ e.directives }

abbrev pub extended_object : ObjectTypeDefinition → ObjectTypeExtension → ObjectTypeDefinition
extended_object d e = record d {
  implements_interfaces = d.implements_interfaces ++ e.implements_interfaces;
  directives = d.directives ++ e.directives;
  fields = d.fields ++ e.fields;
}

abbrev pub extended_interface : InterfaceTypeDefinition → InterfaceTypeExtension → InterfaceTypeDefinition
extended_interface d e = record d {
  implements_interfaces = d.implements_interfaces ++ e.implements_interfaces;
  directives = d.directives ++ e.directives;
  fields = d.fields ++ e.fields;
}

abbrev pub extended_union : UnionTypeDefinition → UnionTypeExtension → UnionTypeDefinition
extended_union d e = record d { directives = d.directives ++ e.directives; members = d.members ++ e.members }

abbrev pub extended_enum : EnumTypeDefinition → EnumTypeExtension → EnumTypeDefinition
extended_enum d e = record d { directives = d.directives ++ e.directives; values = d.values ++ e.values }

abbrev pub extended_input_object : InputObjectTypeDefinition → InputObjectTypeExtension → InputObjectTypeDefinition
extended_input_object d e = record d { directives = d.directives ++ e.directives; fields = d.fields ++ e.fields }

-- an extension of another kind adds nothing
abbrev pub extended : TypeDefinition → TypeExtension → TypeDefinition
extended (type.Scalar d) (extension.Scalar e) = type.Scalar (extended_scalar d e)
extended (type.Object d) (extension.Object e) = type.Object (extended_object d e)
extended (type.Interface d) (extension.Interface e) = type.Interface (extended_interface d e)
extended (type.Union d) (extension.Union e) = type.Union (extended_union d e)
extended (type.Enum d) (extension.Enum e) = type.Enum (extended_enum d e)
extended (type.InputObject d) (extension.InputObject e) = type.InputObject (extended_input_object d e)
extended d _ = d
