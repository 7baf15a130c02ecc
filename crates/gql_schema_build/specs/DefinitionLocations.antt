-- Where definitions of types stand.
use Rattle.std.specs.Prelude.{Option}
use Rattle.gql_source.specs.Span.{Span}
use Rattle.gql_schema_build.specs.declared.type_definition.TypeDefinition.{TypeDefinition}
use Rattle.gql_schema_build.specs.declared.type_definition.TypeDefinition.TheVariants.{Scalar, Object, Interface, Union, Enum, InputObject}

abbrev pub definition_location : TypeDefinition → Option Span
definition_location (Scalar it) = it.location
definition_location (Object it) = it.location
definition_location (Interface it) = it.location
definition_location (Union it) = it.location
definition_location (Enum it) = it.location
definition_location (InputObject it) = it.location
