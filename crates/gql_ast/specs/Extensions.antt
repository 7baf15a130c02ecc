-- What a concrete tree stands for as an extension: sections 3.3.2 and 3.5 to 3.10 of GraphQL October 2021. The second word says
-- what is extended, and the name of a type stands behind it.
use Rattle.std.specs.Prelude.{Bool, ◌&&◌, if◌then◌else◌, Option, Some, None, codes}
use Rattle.std.specs.Option.{option_map}
use Rattle.gql_source.specs.declared.file_id.FileId.{FileId}
use Rattle.gql_ast_base.specs.Forest.{Plain}
use Rattle.gql_ast_base.specs.SyntaxKind.TheVariants as kind
use Rattle.gql_ast.specs.declared.extension.SchemaExtension.{SchemaExtension}
use Rattle.gql_ast.specs.declared.extension.ScalarTypeExtension.{ScalarTypeExtension}
use Rattle.gql_ast.specs.declared.extension.ObjectTypeExtension.{ObjectTypeExtension}
use Rattle.gql_ast.specs.declared.extension.InterfaceTypeExtension.{InterfaceTypeExtension}
use Rattle.gql_ast.specs.declared.extension.UnionTypeExtension.{UnionTypeExtension}
use Rattle.gql_ast.specs.declared.extension.EnumTypeExtension.{EnumTypeExtension}
use Rattle.gql_ast.specs.declared.extension.InputObjectTypeExtension.{InputObjectTypeExtension}
use Rattle.gql_ast_base.specs.Kinds.{is_kind}
use Rattle.gql_ast.specs.Definitions.{interfaces, members}
use Rattle.gql_ast_base.specs.Directives.{directives}
use Rattle.gql_ast.specs.Fields.{fields, input_fields, enum_values}
use Rattle.gql_ast_base.specs.Parts.{Text, nth_name, nth_text, is_word, location}
use Rattle.gql_ast.specs.Schemas.{root_operations}

-- the tree is an extension of what the word says
unfoldable pub extends : Text → Text → Plain → Bool
extends text word tree = is_kind tree.kind kind.Extension && is_word (nth_text text 1 tree.children) word

module _ (text : Text) (file : FileId) where
  unfoldable pub schema_extension_of : Plain → Option SchemaExtension
  schema_extension_of tree =
      if extends text (codes "schema") tree then
      Some (record {
        directives = directives text file tree.children;
        root_operations = root_operations text file tree.children;
        location = location file tree;
      })
      else None

  unfoldable pub scalar_extension_of : Plain → Option ScalarTypeExtension
  scalar_extension_of tree =
      if extends text (codes "scalar") tree then
      option_map (λ name. record {
        name = name;
        directives = directives text file tree.children;
        location = location file tree;
      }) (nth_name text file 2 tree.children)
      else None

  unfoldable pub object_extension_of : Plain → Option ObjectTypeExtension
  object_extension_of tree =
      if extends text (codes "type") tree then
      option_map (λ name. record {
        name = name;
        implements_interfaces = interfaces text file tree.children;
        directives = directives text file tree.children;
        fields = fields text file tree.children;
        location = location file tree;
      }) (nth_name text file 2 tree.children)
      else None

  unfoldable pub interface_extension_of : Plain → Option InterfaceTypeExtension
  interface_extension_of tree =
      if extends text (codes "interface") tree then
      option_map (λ name. record {
        name = name;
        implements_interfaces = interfaces text file tree.children;
        directives = directives text file tree.children;
        fields = fields text file tree.children;
        location = location file tree;
      }) (nth_name text file 2 tree.children)
      else None

  unfoldable pub union_extension_of : Plain → Option UnionTypeExtension
  union_extension_of tree =
      if extends text (codes "union") tree then
      option_map (λ name. record {
        name = name;
        directives = directives text file tree.children;
        members = members text file tree.children;
        location = location file tree;
      }) (nth_name text file 2 tree.children)
      else None

  unfoldable pub enum_extension_of : Plain → Option EnumTypeExtension
  enum_extension_of tree =
      if extends text (codes "enum") tree then
      option_map (λ name. record {
        name = name;
        directives = directives text file tree.children;
        values = enum_values text file tree.children;
        location = location file tree;
      }) (nth_name text file 2 tree.children)
      else None

  unfoldable pub input_object_extension_of : Plain → Option InputObjectTypeExtension
  input_object_extension_of tree =
      if extends text (codes "input") tree then
      option_map (λ name. record {
        name = name;
        directives = directives text file tree.children;
        fields = input_fields text file tree.children;
        location = location file tree;
      }) (nth_name text file 2 tree.children)
      else None
