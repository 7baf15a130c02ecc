-- What a whole text stands for, by some tree of it: sections 2.2, 2.4 and 2.11 of GraphQL October 2021.
use Rattle.std.specs.Prelude.{◌≡◌, ℕ, ◌++◌, List, Some}
use Rattle.gql_source.specs.declared.file_id.FileId.{FileId}
use Rattle.gql_grammar.specs.declared.rule.Rule.TheVariants.{Document, FieldSet, TypeReference}
use Rattle.gql_grammar.specs.declared.syntax_kind.SyntaxKind.TheVariants as kind
use Rattle.gql_cst.specs.Forest.{Forest}
use Rattle.gql_cst.specs.TreeOf.{IsTreeOf}
use Rattle.gql_ast.specs.declared.definition.Definition.{Definition}
use Rattle.gql_ast.specs.declared.selection.Selection.{Selection}
use Rattle.gql_ast_base.specs.declared.type_ref.TypeRef.{TypeRef}
use Rattle.gql_ast.specs.Documents.{definitions}
use Rattle.gql_ast.specs.Selections.{selections, selected}
use Rattle.gql_ast_base.specs.Types.{type_of}

-- the text is a document with these definitions
pub record IsDocumentOf (text : List ℕ) (file : FileId) (meant : List Definition) : Type 0 where
  pub children : Forest
  pub tree : IsTreeOf Document text children
  pub means : definitions text file (record { kind = kind.Document; start = 0; end = 0; children = children }) ≡ meant

-- The text is a selection set, or selections without the braces around them, and these are the selections. By the
-- grammar a tree has either the braces or selections of its own.
pub record AreSelectionsOf (text : List ℕ) (file : FileId) (meant : List Selection) : Type 0 where
  pub children : Forest
  pub tree : IsTreeOf FieldSet text children
  pub means : selected text file children ++ selections text file children ≡ meant

-- the text is a reference to this type
pub record IsTypeOf (text : List ℕ) (file : FileId) (meant : TypeRef) : Type 0 where
  pub children : Forest
  pub tree : IsTreeOf TypeReference text children
  pub means : type_of text file (record { kind = kind.TypeReference; start = 0; end = 0; children = children }) ≡ Some meant
