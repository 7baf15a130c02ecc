-- Definitions whose fields stand in the text's file: `FieldDefinition` in sections 3.6 and 3.7 of GraphQL October 2021.
use Rattle.std.specs.List.{All}
use Rattle.gql_source.specs.declared.file_id.FileId.{FileId}
use Rattle.gql_ast.specs.declared.definition.Definition.{Definition}
use Rattle.gql_ast.specs.declared.definition.Definition.TheVariants as definition
use Rattle.gql_ast.specs.declared.field_definition.FieldDefinition.{FieldDefinition}
use Rattle.gql_ast_laws.specs.Defaults.{IsIn}

abbrev pub IsFieldIn : FileId → FieldDefinition → Type 0
IsFieldIn file field = IsIn file field.location

-- the fields of an object type and of an interface type, and of an extension of one
abbrev pub HasFieldsIn : FileId → Definition → Type 0
HasFieldsIn file (definition.ObjectTypeDefinition it) = All (IsFieldIn file) it.fields
HasFieldsIn file (definition.InterfaceTypeDefinition it) = All (IsFieldIn file) it.fields
HasFieldsIn file (definition.ObjectTypeExtension it) = All (IsFieldIn file) it.fields
HasFieldsIn file (definition.InterfaceTypeExtension it) = All (IsFieldIn file) it.fields
HasFieldsIn file _ = Unit {0}
