-- The names of the types that are extended.
use Rattle.gql_ast_base.specs.Names.{Named}
use Rattle.gql_schema_build.specs.declared.type_extension.TypeExtension.{TypeExtension}
use Rattle.gql_schema_build.specs.declared.type_extension.TypeExtension.TheVariants.{Scalar, Object, Interface, Union, Enum, InputObject}

abbrev pub extension_name : TypeExtension → Named
extension_name (Scalar it) = it.name
extension_name (Object it) = it.name
extension_name (Interface it) = it.name
extension_name (Union it) = it.name
extension_name (Enum it) = it.name
extension_name (InputObject it) = it.name
