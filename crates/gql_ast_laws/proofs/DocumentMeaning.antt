-- Definitions are blind to ignored tokens, and so are documents.
use Rattle.std.proofs.Common.{ℕ, refl}
use Rattle.gql_source.specs.declared.file_id.FileId.{FileId}
use Rattle.gql_grammar.specs.declared.syntax_kind.SyntaxKind.{SyntaxKind}
use Rattle.gql_grammar.specs.declared.syntax_kind.SyntaxKind.TheVariants as kind
use Rattle.gql_cst.specs.Forest.{Forest}
use Rattle.gql_ast.specs.declared.definition.Definition.TheVariants as definition
use Rattle.gql_ast.specs.Documents.{executable_definition_of, schema_definition_of, type_definition_of, extension_of, choice_of, definition_of}
use Rattle.gql_ast_base.specs.Parts.{Text}
use Rattle.gql_ast_laws.proofs.Blind.{EndsAt, BlindAt, Blind, none_at, choice_at, or_at, map_at}
use Rattle.gql_ast_laws.proofs.Gathered.{first_blind}
use Rattle.gql_ast_laws.proofs.OperationMeaning.{operation-blind, fragment-blind}
use Rattle.gql_ast_laws.proofs.SchemaMeaning.{schema-blind, directive_definition-blind}
use Rattle.gql_ast_laws.proofs.DefinitionMeaning as type
use Rattle.gql_ast_laws.proofs.ExtensionMeaning as extension

module _ (text : Text) (file : FileId) (k : SyntaxKind) (start end : ℕ) (children : Forest) (h : EndsAt k children) where
  executable-at : BlindAt (executable_definition_of text file) k start end children
  unfolding executable_definition_of
  executable-at =
      or_at (map_at definition.OperationDefinition ((operation-blind text file).at k start end children h))
      (map_at definition.FragmentDefinition ((fragment-blind text file).at k start end children h))

  schema-at : BlindAt (schema_definition_of text file) k start end children
  unfolding schema_definition_of
  schema-at =
      or_at (map_at definition.DirectiveDefinition ((directive_definition-blind text file).at k start end children h))
      (map_at definition.SchemaDefinition ((schema-blind text file).at k start end children h))

  type-at : BlindAt (type_definition_of text file) k start end children
  unfolding type_definition_of
  type-at =
      or_at (map_at definition.ScalarTypeDefinition ((type.scalar-blind text file).at k start end children h))
      (or_at (map_at definition.ObjectTypeDefinition ((type.object-blind text file).at k start end children h))
      (or_at (map_at definition.InterfaceTypeDefinition ((type.interface-blind text file).at k start end children h))
      (or_at (map_at definition.UnionTypeDefinition ((type.union-blind text file).at k start end children h))
      (or_at (map_at definition.EnumTypeDefinition ((type.enum-blind text file).at k start end children h))
      (map_at definition.InputObjectTypeDefinition ((type.input_object-blind text file).at k start end children h))))))

  extension-at : BlindAt (extension_of text file) k start end children
  unfolding extension_of
  extension-at =
      or_at (map_at definition.SchemaExtension ((extension.schema-blind text file).at k start end children h))
      (or_at (map_at definition.ScalarTypeExtension ((extension.scalar-blind text file).at k start end children h))
      (or_at (map_at definition.ObjectTypeExtension ((extension.object-blind text file).at k start end children h))
      (or_at (map_at definition.InterfaceTypeExtension ((extension.interface-blind text file).at k start end children h))
      (or_at (map_at definition.UnionTypeExtension ((extension.union-blind text file).at k start end children h))
      (or_at (map_at definition.EnumTypeExtension ((extension.enum-blind text file).at k start end children h))
      (map_at definition.InputObjectTypeExtension ((extension.input_object-blind text file).at k start end children h)))))))

  choice-at : BlindAt (choice_of text file) k start end children
  unfolding choice_of
  choice-at = or_at executable-at (or_at schema-at (or_at type-at extension-at))

choice-blind : (text : Text) (file : FileId) → Blind (choice_of text file)
choice-blind text file = record { at = choice-at text file }

pub definition-blind : (text : Text) (file : FileId) → Blind (definition_of text file)
unfolding definition_of
definition-blind text file = record { at = λ k start end children h. choice_at _ _ kind.Definition refl h (first_blind (choice-blind text file) children) none_at }
