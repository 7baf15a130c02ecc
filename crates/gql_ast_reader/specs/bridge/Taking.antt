-- A part that comes to a row: what it is to each thing that the row keeps, and the row with it.
use Rattle.std.specs.Prelude.{if◌then◌else◌, List, [], ◌∷◌, ◌++◌, Option, Some, None, option_and_then}
use Rattle.std.specs.Option.{option_map}
use Rattle.gql_source.specs.declared.file_id.FileId.{FileId}
use Rattle.gql_ast_base.specs.Names.{Named}
use Rattle.gql_ast_base.specs.Parts.{Text}
use Rattle.gql_ast_base.specs.Literals.{opens_string, string_text}
use Rattle.gql_ast_base.specs.Values.{literal}
use Rattle.gql_ast_base.specs.declared.directive.Argument.{Argument}
use Rattle.gql_ast_base.specs.declared.directive.Directive.{Directive}
use Rattle.gql_ast_base.specs.declared.operation_type.OperationType.{OperationType}
use Rattle.gql_ast_base.specs.declared.type_ref.TypeRef.{TypeRef}
use Rattle.gql_ast_base.specs.declared.type_ref.TypeRef.TheVariants.{Named as NamedType}
use Rattle.gql_ast_base.specs.declared.value.Value.{Value}
use Rattle.gql_ast_base.specs.declared.value.ValueKind.{ValueKind}
use Rattle.gql_ast_base.specs.declared.value.ValueKind.TheVariants.{Variable, Enum}
use Rattle.gql_ast.specs.declared.selection.Selection.{Selection}
use Rattle.gql_ast.specs.declared.operation.VariableDefinition.{VariableDefinition}
use Rattle.gql_ast.specs.declared.field_definition.FieldDefinition.{FieldDefinition}
use Rattle.gql_ast.specs.declared.field_definition.InputValueDefinition.{InputValueDefinition}
use Rattle.gql_ast.specs.declared.field_definition.EnumValueDefinition.{EnumValueDefinition}
use Rattle.gql_ast.specs.declared.schema_definition.DirectiveLocation.{DirectiveLocation}
use Rattle.gql_ast.specs.Schemas.{location_word}
use Rattle.gql_ast.specs.declared.definition.Definition.{Definition}
use Rattle.gql_ast_reader.specs.declared.place.Place.{Place}
use Rattle.gql_ast_reader.specs.declared.part.Part.{Part}
use Rattle.gql_ast_reader.specs.declared.part.Part.TheVariants as part
use Rattle.gql_ast_reader.specs.declared.part.Item.{Item}
use Rattle.gql_ast_reader.specs.declared.part.Item.TheVariants as item
use Rattle.gql_ast_reader.specs.declared.part.Group.{Group}
use Rattle.gql_ast_reader.specs.declared.part.Group.TheVariants as group
use Rattle.gql_ast_reader.specs.declared.part.Role.{Role}
use Rattle.gql_ast_reader.specs.declared.part.Role.TheVariants as role
use Rattle.gql_ast_reader.specs.declared.row.Words.{Words}
use Rattle.gql_ast_reader.specs.declared.row.Roles.{Roles}
use Rattle.gql_ast_reader.specs.declared.row.Singles.{Singles}
use Rattle.gql_ast_reader.specs.declared.row.Groups.{Groups}
use Rattle.gql_ast_reader.specs.declared.row.Row.{Row}
use Rattle.gql_ast_reader.specs.declared.row.Own.{Own}
use Rattle.gql_ast_reader.specs.declared.row.Own.TheVariants as own
use Rattle.gql_ast_reader.specs.bridge.Places.{text_at, name_there}

-- ---- what is kept where something more is found

-- the first stays
abbrev pub kept : {T : Type 0} → Option T → Option T → Option T
kept old None = old
kept None (Some x) = Some x
kept (Some y) (Some x) = Some y

-- all stay
abbrev pub added : {T : Type 0} → List T → Option T → List T
added list None = list
added list (Some x) = list ++ (x ∷ [])

-- what is found counts where there is a first one
abbrev pub behind : {S T : Type 0} → Option S → Option T → Option T
behind first None = None
behind None (Some x) = None
behind (Some y) (Some x) = Some x

-- ---- what a part is

abbrev pub word_part : Part → Option Place
word_part (part.Word place) = Some place
word_part _ = None

abbrev pub operation_part : Part → Option OperationType
operation_part (part.Operation operation) = operation
operation_part _ = None

abbrev pub type_part : Part → Option TypeRef
type_part (part.Type ty) = ty
type_part _ = None

abbrev pub default_part : Part → Option (Option Value)
default_part (part.DefaultValue value) = Some value
default_part _ = None

abbrev pub description_part : Part → Option (Option Text)
description_part (part.Description text) = Some text
description_part _ = None

abbrev pub root_operation_part : Part → Option (OperationType × Named)
root_operation_part (part.RootOperation operation) = operation
root_operation_part _ = None

abbrev pub arguments_group : Group → Option (List Argument)
arguments_group (group.Arguments list) = Some list
arguments_group _ = None

abbrev pub directives_group : Group → Option (List Directive)
directives_group (group.Directives list) = Some list
directives_group _ = None

abbrev pub selections_group : Group → Option (List Selection)
selections_group (group.Selections list) = Some list
selections_group _ = None

abbrev pub variables_group : Group → Option (List VariableDefinition)
variables_group (group.Variables list) = Some list
variables_group _ = None

abbrev pub inputs_group : Group → Option (List InputValueDefinition)
inputs_group (group.Inputs list) = Some list
inputs_group _ = None

abbrev pub input_fields_group : Group → Option (List InputValueDefinition)
input_fields_group (group.InputFields list) = Some list
input_fields_group _ = None

abbrev pub fields_group : Group → Option (List FieldDefinition)
fields_group (group.Fields list) = Some list
fields_group _ = None

abbrev pub enum_values_group : Group → Option (List EnumValueDefinition)
enum_values_group (group.EnumValues list) = Some list
enum_values_group _ = None

abbrev pub interfaces_group : Group → Option (List Named)
interfaces_group (group.Interfaces list) = Some list
interfaces_group _ = None

abbrev pub members_group : Group → Option (List Named)
members_group (group.Members list) = Some list
members_group _ = None

abbrev pub content_item : Item → Option ValueKind
content_item (item.Content content) = content
content_item _ = None

abbrev pub value_item : Item → Option Value
value_item (item.Value value) = value
value_item _ = None

abbrev pub pair_item : Item → Option (Named × Value)
pair_item (item.Pair pair) = pair
pair_item _ = None

abbrev pub argument_item : Item → Option Argument
argument_item (item.Argument argument) = argument
argument_item _ = None

abbrev pub directive_item : Item → Option Directive
directive_item (item.Directive directive) = directive
directive_item _ = None

abbrev pub choice_item : Item → Option Selection
choice_item (item.Choice selection) = selection
choice_item _ = None

abbrev pub selection_item : Item → Option Selection
selection_item (item.Selection selection) = selection
selection_item _ = None

abbrev pub variable_item : Item → Option VariableDefinition
variable_item (item.Variable variable) = variable
variable_item _ = None

abbrev pub input_item : Item → Option InputValueDefinition
input_item (item.Input input) = input
input_item _ = None

abbrev pub field_item : Item → Option FieldDefinition
field_item (item.Field field) = field
field_item _ = None

abbrev pub enum_value_item : Item → Option EnumValueDefinition
enum_value_item (item.EnumValue value) = value
enum_value_item _ = None

abbrev pub defined_item : Item → Option Definition
defined_item (item.Defined definition) = definition
defined_item _ = None

abbrev pub definition_item : Item → Option Definition
definition_item (item.Definition definition) = definition
definition_item _ = None

abbrev pub argument_part : Part → Option Argument
argument_part (part.Item i) = argument_item i
argument_part _ = None

abbrev pub directive_part : Part → Option Directive
directive_part (part.Item i) = directive_item i
directive_part _ = None

abbrev pub selection_part : Part → Option Selection
selection_part (part.Item i) = selection_item i
selection_part _ = None

abbrev pub value_part : Part → Option Value
value_part (part.Item i) = value_item i
value_part _ = None

abbrev pub pair_part : Part → Option (Named × Value)
pair_part (part.Item i) = pair_item i
pair_part _ = None

abbrev pub variable_part : Part → Option VariableDefinition
variable_part (part.Item i) = variable_item i
variable_part _ = None

abbrev pub input_part : Part → Option InputValueDefinition
input_part (part.Item i) = input_item i
input_part _ = None

abbrev pub field_part : Part → Option FieldDefinition
field_part (part.Item i) = field_item i
field_part _ = None

abbrev pub enum_value_part : Part → Option EnumValueDefinition
enum_value_part (part.Item i) = enum_value_item i
enum_value_part _ = None

abbrev pub choice_part : Part → Option Selection
choice_part (part.Item i) = choice_item i
choice_part _ = None

abbrev pub defined_part : Part → Option Definition
defined_part (part.Item i) = defined_item i
defined_part _ = None

abbrev pub definition_part : Part → Option Definition
definition_part (part.Item i) = definition_item i
definition_part _ = None

-- ---- the row with it

abbrev pub roles_named : Roles → Role → Option Place → Roles
roles_named roles role.Alias place = record roles { alias = kept roles.alias (Some place) }
roles_named roles role.FragmentName place = record roles { fragment_name = kept roles.fragment_name (Some place) }
roles_named roles role.TypeCondition place = record roles { type_condition = kept roles.type_condition (Some place) }
roles_named roles role.EnumValue place = record roles { enum_value = kept roles.enum_value (Some place) }
roles_named roles role.Variable place = record roles { variable = kept roles.variable (Some place) }
roles_named roles role.NamedType place = record roles { named_type = kept roles.named_type (Some place) }

abbrev pub roles_taken : Roles → Part → Roles
roles_taken roles (part.Named r place) = roles_named roles r place
roles_taken roles _ = roles

abbrev pub groups_with : Groups → Group → Groups
groups_with groups g = record {
  arguments = kept groups.arguments (arguments_group g);
  directives = kept groups.directives (directives_group g);
  selections = kept groups.selections (selections_group g);
  variables = kept groups.variables (variables_group g);
  inputs = kept groups.inputs (inputs_group g);
  input_fields = kept groups.input_fields (input_fields_group g);
  fields = kept groups.fields (fields_group g);
  enum_values = kept groups.enum_values (enum_values_group g);
  interfaces = kept groups.interfaces (interfaces_group g);
  members = kept groups.members (members_group g);
}

abbrev pub groups_taken : Groups → Part → Groups
groups_taken groups (part.Group g) = groups_with groups g
groups_taken groups _ = groups

abbrev pub own_item : Own → Item → Own
own_item own.Nothing i = own.Nothing
own_item (own.Text slot) i = own.Text slot
own_item (own.Names list) i = own.Names list
own_item (own.Content slot) i = own.Content (kept slot (content_item i))
own_item (own.Value slot) i = own.Value (kept slot (value_item i))
own_item (own.Choice slot) i = own.Choice (kept slot (choice_item i))
own_item (own.Defined slot) i = own.Defined (kept slot (defined_item i))
own_item (own.Arguments list) i = own.Arguments (added list (argument_item i))
own_item (own.Directives list) i = own.Directives (added list (directive_item i))
own_item (own.Selections list) i = own.Selections (added list (selection_item i))
own_item (own.Values list) i = own.Values (added list (value_item i))
own_item (own.Pairs list) i = own.Pairs (added list (pair_item i))
own_item (own.Variables list) i = own.Variables (added list (variable_item i))
own_item (own.Inputs list) i = own.Inputs (added list (input_item i))
own_item (own.Fields list) i = own.Fields (added list (field_item i))
own_item (own.EnumValues list) i = own.EnumValues (added list (enum_value_item i))
own_item (own.Definitions list) i = own.Definitions (added list (definition_item i))

-- where a directive may stand, by the name at a place
abbrev pub location_at : Text → Place → Option DirectiveLocation
location_at text place = option_and_then location_word (text_at text place)

abbrev pub words_taken : Text → Words → Option Place → Words
words_taken text words place = record {
  one = kept words.one place;
  two = kept words.two (behind words.one place);
  three = kept words.three (behind words.one (behind words.two place));
  locations = added words.locations (behind words.one (behind words.two (option_and_then (location_at text) place)));
}

-- the number or the string at a place
abbrev pub literal_at : Text → Place → Option ValueKind
literal_at text place = option_and_then literal (text_at text place)

abbrev pub string_at : Text → Place → Option Text
string_at text place = option_and_then (λ token. if opens_string token then Some (string_text token) else None) (text_at text place)

-- a part as the text of a description
abbrev pub text_part : Text → Part → Option Text
text_part text (part.Literal place) = string_at text place
text_part text _ = None

abbrev pub own_literal : Text → Own → Place → Own
own_literal text (own.Content slot) place = own.Content (kept slot (literal_at text place))
own_literal text (own.Text slot) place = own.Text (kept slot (string_at text place))
own_literal text o place = o

module _ (text : Text) (file : FileId) where
  -- a variable or an enum value as the content of a value
  abbrev pub content_named : Role → Option Place → Option ValueKind
  content_named role.Variable place = option_map Variable (name_there text file place)
  content_named role.EnumValue place = option_map Enum (name_there text file place)
  content_named _ place = None

  -- a named type in a list of names
  abbrev pub name_named : Role → Option Place → Option Named
  name_named role.NamedType place = name_there text file place
  name_named _ place = None

  -- a named type as one way to refer to a type
  abbrev pub form_named : Role → Option Place → Option TypeRef
  form_named role.NamedType place = option_map NamedType (name_there text file place)
  form_named _ place = None

  abbrev pub form_part : Part → Option TypeRef
  form_part (part.Form form) = form
  form_part (part.Named r place) = form_named r place
  form_part _ = None

  -- a part as the content of a value
  abbrev pub content_part : Part → Option ValueKind
  content_part (part.Literal place) = literal_at text place
  content_part (part.Named r place) = content_named r place
  content_part (part.Item i) = content_item i
  content_part _ = None

  -- a part as one of a list of names
  abbrev pub name_part : Part → Option Named
  name_part (part.Named r place) = name_named r place
  name_part _ = None

  abbrev pub own_named : Own → Role → Option Place → Own
  own_named (own.Content slot) r place = own.Content (kept slot (content_named r place))
  own_named (own.Names list) r place = own.Names (added list (name_named r place))
  own_named o r place = o

  abbrev pub own_taken : Own → Part → Own
  own_taken o (part.Literal place) = own_literal text o place
  own_taken o (part.Named r place) = own_named o r place
  own_taken o (part.Item i) = own_item o i
  own_taken o _ = o

  abbrev pub singles_taken : Singles → Part → Singles
  singles_taken singles p = record {
    operation = kept singles.operation (operation_part p);
    form = kept singles.form (form_part p);
    ty = kept singles.ty (type_part p);
    default_value = kept singles.default_value (default_part p);
    description = kept singles.description (description_part p);
  }

  -- the row with one part more
  abbrev pub taken : Row → Part → Row
  taken row p = record {
    words = words_taken text row.words (word_part p);
    roles = roles_taken row.roles p;
    singles = singles_taken row.singles p;
    groups = groups_taken row.groups p;
    root_operations = added row.root_operations (root_operation_part p);
    own = own_taken row.own p;
  }

  -- the same where there may be none
  abbrev pub taken_if : Row → Option Part → Row
  taken_if row None = row
  taken_if row (Some p) = taken row p
