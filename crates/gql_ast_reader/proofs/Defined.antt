-- What one tree is to a row that keeps definitions.
use Rattle.std.proofs.Common.{◌≡◌, ℕ, None, refl, sym}
use Rattle.std.specs.Prelude.{option_and_then}
use Rattle.gql_source.specs.declared.file_id.FileId.{FileId}
use Rattle.gql_ast_base.specs.Forest.{Forest, Plain}
use Rattle.gql_ast_base.specs.SyntaxKind.{SyntaxKind}
use Rattle.gql_ast_base.specs.SyntaxKind.TheVariants as kind
use Rattle.gql_ast_base.specs.Kinds.{is_kind}
use Rattle.gql_ast_base.specs.Parts.{Text}
use Rattle.gql_ast.specs.Definitions.{scalar_of, object_of, interface_of, union_of, enum_of, input_object_of}
use Rattle.gql_ast.specs.Extensions.{extends, schema_extension_of, scalar_extension_of, object_extension_of, interface_extension_of}
use Rattle.gql_ast.specs.Extensions.{union_extension_of, enum_extension_of, input_object_extension_of}
use Rattle.gql_ast.specs.Schemas.{directive_definition_of, schema_of}
use Rattle.gql_ast.specs.Operations.{operation_of, fragment_of}
use Rattle.gql_ast.specs.Documents.{executable_definition_of, schema_definition_of, type_definition_of, extension_of, choice_of, definition_of}
use Rattle.gql_ast_reader.specs.bridge.Places.{place_of}
use Rattle.gql_ast_reader.specs.bridge.Standing.{part_at}
use Rattle.gql_ast_reader.specs.bridge.Taking.{defined_part, definition_part}
use Rattle.gql_ast_reader.proofs.Sorts.{token-case}

module _ (text : Text) (file : FileId) (start end : ℕ) (children : Forest) where
  abbrev tree : SyntaxKind → Plain
  tree k = record { kind = k; start = start; end = end; children = children }

  pub definition-at : (k : SyntaxKind) → definition_of text file (tree k) ≡ option_and_then definition_part (part_at text file k (tree k))
  unfolding is_kind definition_of
  definition-at kind.Token = sym (token-case text (place_of (tree kind.Token)) (option_and_then definition_part) None refl refl refl)
  definition-at _ = refl

  pub defined-at : (k : SyntaxKind) → choice_of text file (tree k) ≡ option_and_then defined_part (part_at text file k (tree k))
  unfolding choice_of executable_definition_of schema_definition_of type_definition_of extension_of operation_of fragment_of directive_definition_of
      schema_of scalar_of object_of interface_of union_of enum_of input_object_of schema_extension_of scalar_extension_of object_extension_of
      interface_extension_of union_extension_of enum_extension_of input_object_extension_of extends is_kind
  defined-at kind.Token = sym (token-case text (place_of (tree kind.Token)) (option_and_then defined_part) None refl refl refl)
  defined-at _ = refl
