-- Definitions whose defaults are constant: `DefaultValue` is `= Value[Const]` in sections 2.10 and 3.10 of GraphQL October 2021.
use Rattle.std.specs.Prelude.{◌≡◌, true, Option, Some, None}
use Rattle.std.specs.List.{All}
use Rattle.gql_source.specs.Span.{Span}
use Rattle.gql_source.specs.declared.file_id.FileId.{FileId}
use Rattle.gql_ast.specs.declared.definition.Definition.{Definition}
use Rattle.gql_ast.specs.declared.definition.Definition.TheVariants.{OperationDefinition, InputObjectTypeDefinition, InputObjectTypeExtension}
use Rattle.gql_ast_laws.specs.Constants.{is_constant_default}
use Rattle.gql_ast.specs.declared.field_definition.InputValueDefinition.{InputValueDefinition}
use Rattle.gql_ast.specs.declared.operation.VariableDefinition.{VariableDefinition}

-- a place, if there is one, that is in the file
abbrev pub IsIn : FileId → Option Span → Type 0
IsIn file None = Unit {0}
IsIn file (Some span) = span.file_id ≡ file

abbrev pub IsConstantVariable : VariableDefinition → Type 0
IsConstantVariable variable = is_constant_default variable.default_value ≡ true

-- an input field of the file, with a constant default or none
pub record IsConstantField (file : FileId) (field : InputValueDefinition) : Type 0 where
  pub constant : is_constant_default field.default_value ≡ true
  pub place : IsIn file field.location

-- the variables of an operation, and the fields of an input object type and of an extension of one
abbrev pub HasConstantDefaults : FileId → Definition → Type 0
HasConstantDefaults file (OperationDefinition it) = All IsConstantVariable it.variables
HasConstantDefaults file (InputObjectTypeDefinition it) = All (IsConstantField file) it.fields
HasConstantDefaults file (InputObjectTypeExtension it) = All (IsConstantField file) it.fields
HasConstantDefaults file _ = Unit {0}
