-- What a concrete tree stands for as the definition of a schema or a directive: sections 3.3 and 3.13 of GraphQL October 2021.
use Rattle.std.specs.Prelude.{if◌then◌else◌, List, Option, Some, None, option_and_then, codes}
use Rattle.std.specs.Option.{option_map}
use Rattle.std.specs.Str.{bytes_eq}
use Rattle.gql_source.specs.declared.file_id.FileId.{FileId}
use Rattle.gql_ast_base.specs.Forest.{Forest, Plain}
use Rattle.gql_ast_base.specs.SyntaxKind.TheVariants as kind
use Rattle.gql_ast_base.specs.Names.{Named}
use Rattle.gql_ast_base.specs.declared.operation_type.OperationType.{OperationType}
use Rattle.gql_ast.specs.declared.schema_definition.SchemaDefinition.{SchemaDefinition}
use Rattle.gql_ast.specs.declared.schema_definition.DirectiveDefinition.{DirectiveDefinition}
use Rattle.gql_ast.specs.declared.schema_definition.DirectiveLocation.{DirectiveLocation}
use Rattle.gql_ast.specs.declared.schema_definition.DirectiveLocation.TheVariants as at
use Rattle.gql_ast_base.specs.Kinds.{is_kind}
use Rattle.gql_ast_base.specs.Directives.{directives}
use Rattle.gql_ast.specs.Fields.{argument_definitions}
use Rattle.gql_ast_base.specs.Literals.{description}
use Rattle.gql_ast_base.specs.OperationTypes.{root_operation_of}
use Rattle.gql_ast_base.specs.Parts.{Text, or_else, gather, nth_name, nth_text, word, is_word, after_word, location}

-- ExecutableDirectiveLocation
abbrev pub executable_location : Text → Option DirectiveLocation
executable_location found =
    if bytes_eq found (codes "QUERY") then Some at.Query
    else if bytes_eq found (codes "MUTATION") then Some at.Mutation
    else if bytes_eq found (codes "SUBSCRIPTION") then Some at.Subscription
    else if bytes_eq found (codes "FIELD") then Some at.Field
    else if bytes_eq found (codes "FRAGMENT_DEFINITION") then Some at.FragmentDefinition
    else if bytes_eq found (codes "FRAGMENT_SPREAD") then Some at.FragmentSpread
    else if bytes_eq found (codes "INLINE_FRAGMENT") then Some at.InlineFragment
    else if bytes_eq found (codes "VARIABLE_DEFINITION") then Some at.VariableDefinition
    else None

-- TypeSystemDirectiveLocation, up to ARGUMENT_DEFINITION and from INTERFACE on
abbrev pub output_location : Text → Option DirectiveLocation
output_location found =
    if bytes_eq found (codes "SCHEMA") then Some at.Schema
    else if bytes_eq found (codes "SCALAR") then Some at.Scalar
    else if bytes_eq found (codes "OBJECT") then Some at.Object
    else if bytes_eq found (codes "FIELD_DEFINITION") then Some at.FieldDefinition
    else if bytes_eq found (codes "ARGUMENT_DEFINITION") then Some at.ArgumentDefinition
    else None

abbrev pub other_location : Text → Option DirectiveLocation
other_location found =
    if bytes_eq found (codes "INTERFACE") then Some at.Interface
    else if bytes_eq found (codes "UNION") then Some at.Union
    else if bytes_eq found (codes "ENUM") then Some at.Enum
    else if bytes_eq found (codes "ENUM_VALUE") then Some at.EnumValue
    else if bytes_eq found (codes "INPUT_OBJECT") then Some at.InputObject
    else if bytes_eq found (codes "INPUT_FIELD_DEFINITION") then Some at.InputFieldDefinition
    else None

-- the place that a word names
unfoldable pub location_word : Text → Option DirectiveLocation
location_word found = or_else (executable_location found) (or_else (output_location found) (other_location found))

-- the word that names a place
abbrev pub location_name : DirectiveLocation → Text
location_name at.Query = codes "QUERY"
location_name at.Mutation = codes "MUTATION"
location_name at.Subscription = codes "SUBSCRIPTION"
location_name at.Field = codes "FIELD"
location_name at.FragmentDefinition = codes "FRAGMENT_DEFINITION"
location_name at.FragmentSpread = codes "FRAGMENT_SPREAD"
location_name at.InlineFragment = codes "INLINE_FRAGMENT"
location_name at.VariableDefinition = codes "VARIABLE_DEFINITION"
location_name at.Schema = codes "SCHEMA"
location_name at.Scalar = codes "SCALAR"
location_name at.Object = codes "OBJECT"
location_name at.FieldDefinition = codes "FIELD_DEFINITION"
location_name at.ArgumentDefinition = codes "ARGUMENT_DEFINITION"
location_name at.Interface = codes "INTERFACE"
location_name at.Union = codes "UNION"
location_name at.Enum = codes "ENUM"
location_name at.EnumValue = codes "ENUM_VALUE"
location_name at.InputObject = codes "INPUT_OBJECT"
location_name at.InputFieldDefinition = codes "INPUT_FIELD_DEFINITION"

-- the place that a token names
unfoldable pub directive_location_of : Text → Plain → Option DirectiveLocation
directive_location_of text tree = option_and_then location_word (word text tree)

-- the places among the parts of a directive's definition, which stand behind its name
unfoldable pub directive_locations : Text → Forest → List DirectiveLocation
directive_locations text row = gather (directive_location_of text) (after_word text 1 row)

module _ (text : Text) (file : FileId) where
  unfoldable pub root_operations : Forest → List (OperationType × Named)
  root_operations row = gather (root_operation_of text file) row

  unfoldable pub schema_of : Plain → Option SchemaDefinition
  schema_of tree =
      if is_kind tree.kind kind.SchemaDefinition then
      Some (record {
        description = description text tree.children;
        directives = directives text file tree.children;
        root_operations = root_operations tree.children;
        location = location file tree;
      })
      else None

  -- a name and places, and a description, arguments and `repeatable` or none
  unfoldable pub directive_definition_of : Plain → Option DirectiveDefinition
  directive_definition_of tree =
      if is_kind tree.kind kind.DirectiveDefinition then
      option_map (λ name. record {
        description = description text tree.children;
        name = name;
        arguments = argument_definitions text file tree.children;
        repeatable = is_word (nth_text text 2 tree.children) (codes "repeatable");
        locations = directive_locations text tree.children;
        location = location file tree;
      }) (nth_name text file 1 tree.children)
      else None
