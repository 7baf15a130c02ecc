-- What a concrete tree stands for as a definition: section 2.2 of GraphQL October 2021.
use Rattle.std.specs.Prelude.{if◌then◌else◌, List, [], Option, Some, None}
use Rattle.std.specs.Option.{option_map}
use Rattle.std.specs.Map.{lookup}
use Rattle.gql_source.specs.File.{File, Files, is_file}
use Rattle.gql_source.specs.declared.file_id.FileId.{FileId}
use Rattle.gql_cst.specs.Forest.{Plain}
use Rattle.gql_grammar.specs.declared.syntax_kind.SyntaxKind.TheVariants as kind
use Rattle.gql_ast.specs.declared.definition.Definition.{Definition}
use Rattle.gql_ast.specs.declared.definition.Definition.TheVariants as definition
use Rattle.gql_ast_base.specs.Kinds.{is_kind}
use Rattle.gql_ast.specs.Definitions.{scalar_of, object_of, interface_of, union_of, enum_of, input_object_of}
use Rattle.gql_ast.specs.Extensions.{schema_extension_of, scalar_extension_of, object_extension_of, interface_extension_of}
use Rattle.gql_ast.specs.Extensions.{union_extension_of, enum_extension_of, input_object_extension_of}
use Rattle.gql_ast.specs.Operations.{operation_of, fragment_of}
use Rattle.gql_ast.specs.Schemas.{directive_definition_of, schema_of}
use Rattle.gql_ast_base.specs.Parts.{Text, or_else, gather, first}

-- the text of the file with the number
abbrev pub file_text : Option File → Text
file_text None = []
file_text (Some file) = file.source_text

abbrev pub text_of : FileId → Files → Text
text_of id sources = file_text (lookup (is_file id) sources)

module _ (text : Text) (file : FileId) where
  -- an operation or a fragment
  unfoldable pub executable_definition_of : Plain → Option Definition
  executable_definition_of tree =
      or_else (option_map definition.OperationDefinition (operation_of text file tree)) (
      option_map definition.FragmentDefinition (fragment_of text file tree))

  -- a schema or a directive
  unfoldable pub schema_definition_of : Plain → Option Definition
  schema_definition_of tree =
      or_else (option_map definition.DirectiveDefinition (directive_definition_of text file tree)) (
      option_map definition.SchemaDefinition (schema_of text file tree))

  -- a type
  unfoldable pub type_definition_of : Plain → Option Definition
  type_definition_of tree =
      or_else (option_map definition.ScalarTypeDefinition (scalar_of text file tree)) (
      or_else (option_map definition.ObjectTypeDefinition (object_of text file tree)) (
      or_else (option_map definition.InterfaceTypeDefinition (interface_of text file tree)) (
      or_else (option_map definition.UnionTypeDefinition (union_of text file tree)) (
      or_else (option_map definition.EnumTypeDefinition (enum_of text file tree)) (
      option_map definition.InputObjectTypeDefinition (input_object_of text file tree))))))

  -- an extension
  unfoldable pub extension_of : Plain → Option Definition
  extension_of tree =
      or_else (option_map definition.SchemaExtension (schema_extension_of text file tree)) (
      or_else (option_map definition.ScalarTypeExtension (scalar_extension_of text file tree)) (
      or_else (option_map definition.ObjectTypeExtension (object_extension_of text file tree)) (
      or_else (option_map definition.InterfaceTypeExtension (interface_extension_of text file tree)) (
      or_else (option_map definition.UnionTypeExtension (union_extension_of text file tree)) (
      or_else (option_map definition.EnumTypeExtension (enum_extension_of text file tree)) (
      option_map definition.InputObjectTypeExtension (input_object_extension_of text file tree)))))))

  -- one way to define something
  unfoldable pub choice_of : Plain → Option Definition
  choice_of tree =
      or_else (executable_definition_of tree) (or_else (schema_definition_of tree) (or_else (type_definition_of tree) (extension_of tree)))

  -- a definition is what the first of its parts is
  unfoldable pub definition_of : Plain → Option Definition
  definition_of tree = if is_kind tree.kind kind.Definition then first choice_of tree.children else None

  -- the definitions of a document
  abbrev pub definitions : Plain → List Definition
  definitions tree = gather definition_of tree.children
