-- The names of definitions of types.
use Rattle.gql_ast_base.specs.Names.{Named}
use Rattle.gql_schema_build.specs.declared.type_definition.TypeDefinition.{TypeDefinition}
use Rattle.gql_schema_build.specs.declared.type_definition.TypeDefinition.TheVariants.{Scalar, Object, Interface, Union, Enum, InputObject}

abbrev pub definition_name : TypeDefinition → Named
definition_name (Scalar it) = it.name
definition_name (Object it) = it.name
definition_name (Interface it) = it.name
definition_name (Union it) = it.name
definition_name (Enum it) = it.name
definition_name (InputObject it) = it.name
