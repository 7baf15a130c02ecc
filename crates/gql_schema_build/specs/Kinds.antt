-- Kinds of types.
use Rattle.std.specs.Prelude.{Bool, true, false}
use Rattle.gql_schema_build.specs.declared.type_kind.TypeKind.{TypeKind}
use Rattle.gql_schema_build.specs.declared.type_kind.TypeKind.TheVariants.{Scalar, Object, Interface, Union, Enum, InputObject}
use Rattle.gql_schema_build.specs.declared.type_definition.TypeDefinition.{TypeDefinition}
use Rattle.gql_schema_build.specs.declared.type_definition.TypeDefinition.TheVariants as definition
use Rattle.gql_schema_build.specs.declared.type_extension.TypeExtension.{TypeExtension}
use Rattle.gql_schema_build.specs.declared.type_extension.TypeExtension.TheVariants as extension

abbrev pub kind_of_definition : TypeDefinition → TypeKind
kind_of_definition (definition.Scalar d) = Scalar
kind_of_definition (definition.Object d) = Object
kind_of_definition (definition.Interface d) = Interface
kind_of_definition (definition.Union d) = Union
kind_of_definition (definition.Enum d) = Enum
kind_of_definition (definition.InputObject d) = InputObject

abbrev pub kind_of_extension : TypeExtension → TypeKind
kind_of_extension (extension.Scalar e) = Scalar
kind_of_extension (extension.Object e) = Object
kind_of_extension (extension.Interface e) = Interface
kind_of_extension (extension.Union e) = Union
kind_of_extension (extension.Enum e) = Enum
kind_of_extension (extension.InputObject e) = InputObject

abbrev pub same_kind : TypeKind → TypeKind → Bool
same_kind Scalar Scalar = true
same_kind Object Object = true
same_kind Interface Interface = true
same_kind Union Union = true
same_kind Enum Enum = true
same_kind InputObject InputObject = true
same_kind _ _ = false
