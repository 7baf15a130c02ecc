-- What a concrete tree stands for as the definition of a field, an argument or an enum value: sections 3.6, 3.9 and 3.10
-- of GraphQL October 2021.
use Rattle.std.specs.Prelude.{if◌then◌else◌, List, Option, None, option_and_then}
use Rattle.std.specs.Option.{option_map}
use Rattle.gql_source.specs.declared.file_id.FileId.{FileId}
use Rattle.gql_ast_base.specs.Forest.{Forest, Plain}
use Rattle.gql_ast_base.specs.SyntaxKind.TheVariants as kind
use Rattle.gql_ast.specs.declared.field_definition.FieldDefinition.{FieldDefinition}
use Rattle.gql_ast.specs.declared.field_definition.InputValueDefinition.{InputValueDefinition}
use Rattle.gql_ast.specs.declared.field_definition.EnumValueDefinition.{EnumValueDefinition}
use Rattle.gql_ast_base.specs.Kinds.{is_kind}
use Rattle.gql_ast_base.specs.Directives.{directives}
use Rattle.gql_ast_base.specs.Literals.{description}
use Rattle.gql_ast_base.specs.Values.{default_value}
use Rattle.gql_ast_base.specs.Parts.{Text, gather, first, inside, nth_name, location}
use Rattle.gql_ast_base.specs.Types.{type_of}

module _ (text : Text) (file : FileId) where
  -- a name and a type, and a description, a default value and directives or none
  unfoldable pub input_value_of : Plain → Option InputValueDefinition
  input_value_of tree =
      if is_kind tree.kind kind.InputValueDefinition then
      option_and_then (λ name. option_map (λ ty. record {
        description = description text tree.children;
        name = name;
        ty = ty;
        default_value = default_value text file tree.children;
        directives = directives text file tree.children;
        location = location file tree;
      }) (first (type_of text file) tree.children)) (nth_name text file 0 tree.children)
      else None

  -- the arguments among the parts of a definition
  unfoldable pub argument_definitions : Forest → List InputValueDefinition
  argument_definitions row = gather input_value_of (inside kind.ArgumentsDefinition row)

  -- the fields among the parts of an input object type
  unfoldable pub input_fields : Forest → List InputValueDefinition
  input_fields row = gather input_value_of (inside kind.InputFieldsDefinition row)

  -- a name and a type, and a description, arguments and directives or none
  unfoldable pub field_of : Plain → Option FieldDefinition
  field_of tree =
      if is_kind tree.kind kind.FieldDefinition then
      option_and_then (λ name. option_map (λ ty. record {
        description = description text tree.children;
        name = name;
        arguments = argument_definitions tree.children;
        ty = ty;
        directives = directives text file tree.children;
        location = location file tree;
      }) (first (type_of text file) tree.children)) (nth_name text file 0 tree.children)
      else None

  -- the fields among the parts of an object type or an interface type
  unfoldable pub fields : Forest → List FieldDefinition
  fields row = gather field_of (inside kind.FieldsDefinition row)

  -- a value, and a description and directives or none
  unfoldable pub enum_value_of : Plain → Option EnumValueDefinition
  enum_value_of tree =
      if is_kind tree.kind kind.EnumValueDefinition then
      option_map (λ value. record {
        description = description text tree.children;
        value = value;
        directives = directives text file tree.children;
        location = location file tree;
      }) (nth_name text file 0 (inside kind.EnumValue tree.children))
      else None

  -- the values among the parts of an enum type
  unfoldable pub enum_values : Forest → List EnumValueDefinition
  enum_values row = gather enum_value_of (inside kind.EnumValuesDefinition row)
