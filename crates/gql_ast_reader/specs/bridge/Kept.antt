-- What an open node keeps of the trees in it: for each thing that a conversion looks for in a row, what it would find.
use Rattle.std.specs.Prelude.{slice_get}
use Rattle.gql_source.specs.declared.file_id.FileId.{FileId}
use Rattle.gql_ast_base.specs.Forest.{Forest}
use Rattle.gql_ast_base.specs.SyntaxKind.{SyntaxKind}
use Rattle.gql_ast_base.specs.SyntaxKind.TheVariants as kind
use Rattle.gql_ast_base.specs.Parts.{Text, gather, first}
use Rattle.gql_ast_base.specs.Directives.{argument_of, directive_of}
use Rattle.gql_ast_base.specs.Literals.{string_of}
use Rattle.gql_ast_base.specs.NamedTypes.{named_type_of}
use Rattle.gql_ast_base.specs.OperationTypes.{operation_type_of, root_operation_of}
use Rattle.gql_ast_base.specs.Types.{type_of}
use Rattle.gql_ast_base.specs.bridge.Types.{form_of}
use Rattle.gql_ast_base.specs.Values.{value_of}
use Rattle.gql_ast_base.specs.bridge.Values.{content_of, member_of}
use Rattle.gql_ast.specs.Selections as selections
use Rattle.gql_ast.specs.bridge.Selections as selections_bridge
use Rattle.gql_ast.specs.Operations.{variable_of}
use Rattle.gql_ast.specs.Fields.{input_value_of, field_of, enum_value_of}
use Rattle.gql_ast.specs.Schemas.{directive_locations}
use Rattle.gql_ast.specs.Documents as documents
use Rattle.gql_ast_reader.specs.declared.row.Words.{Words}
use Rattle.gql_ast_reader.specs.declared.row.Roles.{Roles}
use Rattle.gql_ast_reader.specs.declared.row.Singles.{Singles}
use Rattle.gql_ast_reader.specs.declared.row.Groups.{Groups}
use Rattle.gql_ast_reader.specs.declared.row.Row.{Row}
use Rattle.gql_ast_reader.specs.declared.row.Own.{Own}
use Rattle.gql_ast_reader.specs.declared.row.Own.TheVariants as own
use Rattle.gql_ast_reader.specs.bridge.Places.{words, first_word}
use Rattle.gql_ast_reader.specs.bridge.Standing.{in_first, joined}

-- the first names among the tokens, and what those behind the second say of where a directive may stand
abbrev pub words_of : Text → Forest → Words
words_of text row = record {
  one = slice_get (words text row) 0;
  two = slice_get (words text row) 1;
  three = slice_get (words text row) 2;
  locations = directive_locations text row;
}

-- of each role the first node, and in it the first name
abbrev pub roles_of : Text → Forest → Roles
roles_of text row = record {
  alias = in_first kind.Alias (first_word text) row;
  fragment_name = in_first kind.FragmentName (first_word text) row;
  type_condition = in_first kind.TypeCondition (λ inner. joined (in_first kind.NamedType (first_word text) inner)) row;
  enum_value = in_first kind.EnumValue (first_word text) row;
  variable = in_first kind.Variable (first_word text) row;
  named_type = in_first kind.NamedType (first_word text) row;
}

module _ (text : Text) (file : FileId) where
  abbrev pub singles_of : Forest → Singles
  singles_of row = record {
    operation = first (operation_type_of text) row;
    form = first (form_of text file) row;
    ty = first (type_of text file) row;
    default_value = in_first kind.DefaultValue (first (value_of text file)) row;
    description = in_first kind.Description (first (string_of text)) row;
  }

  abbrev pub groups_of : Forest → Groups
  groups_of row = record {
    arguments = in_first kind.Arguments (gather (argument_of text file)) row;
    directives = in_first kind.Directives (gather (directive_of text file)) row;
    selections = in_first kind.SelectionSet (gather (selections.selection_of text file)) row;
    variables = in_first kind.VariableDefinitions (gather (variable_of text file)) row;
    inputs = in_first kind.ArgumentsDefinition (gather (input_value_of text file)) row;
    input_fields = in_first kind.InputFieldsDefinition (gather (input_value_of text file)) row;
    fields = in_first kind.FieldsDefinition (gather (field_of text file)) row;
    enum_values = in_first kind.EnumValuesDefinition (gather (enum_value_of text file)) row;
    interfaces = in_first kind.ImplementsInterfaces (gather (named_type_of text file)) row;
    members = in_first kind.UnionMemberTypes (gather (named_type_of text file)) row;
  }

  -- what only rows of one sort of node keep
  abbrev pub own_of : SyntaxKind → Forest → Own
  own_of kind.Value row = own.Content (first (content_of text file) row)
  own_of kind.Description row = own.Text (first (string_of text) row)
  own_of kind.Argument row = own.Value (first (value_of text file) row)
  own_of kind.ObjectField row = own.Value (first (value_of text file) row)
  own_of kind.DefaultValue row = own.Value (first (value_of text file) row)
  own_of kind.Selection row = own.Choice (first (selections_bridge.choice_of text file) row)
  own_of kind.Definition row = own.Defined (first (documents.choice_of text file) row)
  own_of kind.Arguments row = own.Arguments (gather (argument_of text file) row)
  own_of kind.Directives row = own.Directives (gather (directive_of text file) row)
  own_of kind.SelectionSet row = own.Selections (gather (selections.selection_of text file) row)
  own_of kind.ListValue row = own.Values (gather (value_of text file) row)
  own_of kind.ObjectValue row = own.Pairs (gather (member_of text file) row)
  own_of kind.VariableDefinitions row = own.Variables (gather (variable_of text file) row)
  own_of kind.ArgumentsDefinition row = own.Inputs (gather (input_value_of text file) row)
  own_of kind.InputFieldsDefinition row = own.Inputs (gather (input_value_of text file) row)
  own_of kind.FieldsDefinition row = own.Fields (gather (field_of text file) row)
  own_of kind.EnumValuesDefinition row = own.EnumValues (gather (enum_value_of text file) row)
  own_of kind.ImplementsInterfaces row = own.Names (gather (named_type_of text file) row)
  own_of kind.UnionMemberTypes row = own.Names (gather (named_type_of text file) row)
  own_of kind.Document row = own.Definitions (gather (documents.definition_of text file) row)
  own_of _ row = own.Nothing

  abbrev pub row_of : SyntaxKind → Forest → Row
  row_of kind row = record {
    words = words_of text row;
    roles = roles_of text row;
    singles = singles_of row;
    groups = groups_of row;
    root_operations = gather (root_operation_of text file) row;
    own = own_of kind row;
  }
