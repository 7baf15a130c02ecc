-- What a concrete tree stands for as the definition of a type: sections 3.5 to 3.10 of GraphQL October 2021. The name stands
-- behind the word that says what is defined.
use Rattle.std.specs.Prelude.{if◌then◌else◌, List, Option, None}
use Rattle.std.specs.Option.{option_map}
use Rattle.gql_source.specs.declared.file_id.FileId.{FileId}
use Rattle.gql_ast_base.specs.Forest.{Forest, Plain}
use Rattle.gql_ast_base.specs.SyntaxKind.TheVariants as kind
use Rattle.gql_ast_base.specs.Names.{Named}
use Rattle.gql_ast.specs.declared.type_definition.ScalarTypeDefinition.{ScalarTypeDefinition}
use Rattle.gql_ast.specs.declared.type_definition.ObjectTypeDefinition.{ObjectTypeDefinition}
use Rattle.gql_ast.specs.declared.type_definition.InterfaceTypeDefinition.{InterfaceTypeDefinition}
use Rattle.gql_ast.specs.declared.type_definition.UnionTypeDefinition.{UnionTypeDefinition}
use Rattle.gql_ast.specs.declared.type_definition.EnumTypeDefinition.{EnumTypeDefinition}
use Rattle.gql_ast.specs.declared.type_definition.InputObjectTypeDefinition.{InputObjectTypeDefinition}
use Rattle.gql_ast_base.specs.Kinds.{is_kind}
use Rattle.gql_ast_base.specs.Directives.{directives}
use Rattle.gql_ast.specs.Fields.{fields, input_fields, enum_values}
use Rattle.gql_ast_base.specs.Literals.{description}
use Rattle.gql_ast_base.specs.Parts.{Text, gather, inside, nth_name, location}
use Rattle.gql_ast_base.specs.NamedTypes.{named_type_of}

-- the interfaces among the parts of an object type or an interface type
unfoldable pub interfaces : Text → FileId → Forest → List Named
interfaces text file row = gather (named_type_of text file) (inside kind.ImplementsInterfaces row)

-- the members among the parts of a union type
unfoldable pub members : Text → FileId → Forest → List Named
members text file row = gather (named_type_of text file) (inside kind.UnionMemberTypes row)

module _ (text : Text) (file : FileId) where
  unfoldable pub scalar_of : Plain → Option ScalarTypeDefinition
  scalar_of tree =
      if is_kind tree.kind kind.ScalarTypeDefinition then
      option_map (λ name. record {
        description = description text tree.children;
        name = name;
        directives = directives text file tree.children;
        location = location file tree;
      }) (nth_name text file 1 tree.children)
      else None

  unfoldable pub object_of : Plain → Option ObjectTypeDefinition
  object_of tree =
      if is_kind tree.kind kind.ObjectTypeDefinition then
      option_map (λ name. record {
        description = description text tree.children;
        name = name;
        implements_interfaces = interfaces text file tree.children;
        directives = directives text file tree.children;
        fields = fields text file tree.children;
        location = location file tree;
      }) (nth_name text file 1 tree.children)
      else None

  unfoldable pub interface_of : Plain → Option InterfaceTypeDefinition
  interface_of tree =
      if is_kind tree.kind kind.InterfaceTypeDefinition then
      option_map (λ name. record {
        description = description text tree.children;
        name = name;
        implements_interfaces = interfaces text file tree.children;
        directives = directives text file tree.children;
        fields = fields text file tree.children;
        location = location file tree;
      }) (nth_name text file 1 tree.children)
      else None

  unfoldable pub union_of : Plain → Option UnionTypeDefinition
  union_of tree =
      if is_kind tree.kind kind.UnionTypeDefinition then
      option_map (λ name. record {
        description = description text tree.children;
        name = name;
        directives = directives text file tree.children;
        members = members text file tree.children;
        location = location file tree;
      }) (nth_name text file 1 tree.children)
      else None

  unfoldable pub enum_of : Plain → Option EnumTypeDefinition
  enum_of tree =
      if is_kind tree.kind kind.EnumTypeDefinition then
      option_map (λ name. record {
        description = description text tree.children;
        name = name;
        directives = directives text file tree.children;
        values = enum_values text file tree.children;
        location = location file tree;
      }) (nth_name text file 1 tree.children)
      else None

  unfoldable pub input_object_of : Plain → Option InputObjectTypeDefinition
  input_object_of tree =
      if is_kind tree.kind kind.InputObjectTypeDefinition then
      option_map (λ name. record {
        description = description text tree.children;
        name = name;
        directives = directives text file tree.children;
        fields = input_fields text file tree.children;
        location = location file tree;
      }) (nth_name text file 1 tree.children)
      else None
