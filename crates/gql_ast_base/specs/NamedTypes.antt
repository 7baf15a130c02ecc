-- The names of types: NamedType of section 2.11 of GraphQL October 2021.
use Rattle.std.specs.Prelude.{if◌then◌else◌, Option, None}
use Rattle.gql_source.specs.declared.file_id.FileId.{FileId}
use Rattle.gql_cst.specs.Forest.{Forest, Plain}
use Rattle.gql_cst.specs.SyntaxKind.TheVariants as kind
use Rattle.gql_ast_base.specs.Names.{Named}
use Rattle.gql_ast_base.specs.Kinds.{is_kind}
use Rattle.gql_ast_base.specs.Parts.{Text, nth_name, inside}

module _ (text : Text) (file : FileId) where
  -- the name of the first named type of a row
  unfoldable pub named_type_in : Forest → Option Named
  named_type_in row = nth_name text file 0 (inside kind.NamedType row)

  -- the name of a named type
  unfoldable pub named_type_of : Plain → Option Named
  named_type_of tree = if is_kind tree.kind kind.NamedType then nth_name text file 0 tree.children else None
