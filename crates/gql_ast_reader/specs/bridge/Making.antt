-- What a node becomes, of what it kept of the trees in it and of its place in the file.
use Rattle.std.specs.Prelude.{List, [], Option, Some, None, option_and_then, unwrap_or, codes}
use Rattle.std.specs.Option.{option_map}
use Rattle.gql_source.specs.declared.file_id.FileId.{FileId}
use Rattle.gql_source.specs.Span.{Span}
use Rattle.gql_ast_base.specs.SyntaxKind.{SyntaxKind}
use Rattle.gql_ast_base.specs.SyntaxKind.TheVariants as kind
use Rattle.gql_ast_base.specs.Names.{Named}
use Rattle.gql_ast_base.specs.Parts.{Text, is_word}
use Rattle.gql_ast_base.specs.OperationTypes.{operation_word}
use Rattle.gql_ast_base.specs.Types.{non_null}
use Rattle.gql_ast_base.specs.Values.{truth, pair_of}
use Rattle.gql_ast_base.specs.declared.directive.Argument.{Argument}
use Rattle.gql_ast_base.specs.declared.directive.Directive.{Directive}
use Rattle.gql_ast_base.specs.declared.operation_type.OperationType.{OperationType}
use Rattle.gql_ast_base.specs.declared.operation_type.OperationType.TheVariants.{Query}
use Rattle.gql_ast_base.specs.declared.type_ref.TypeRef.{List as ListOf}
use Rattle.gql_ast_base.specs.declared.value.Value.{Value}
use Rattle.gql_ast_base.specs.declared.value.ValueKind.{ValueKind, List as ListKind, Object as ObjectKind}
use Rattle.gql_ast_base.specs.declared.value.ValueKind.TheVariants.{Null, Boolean}
use Rattle.gql_ast.specs.declared.selection.Field.{Field}
use Rattle.gql_ast.specs.declared.selection.FragmentSpread.{FragmentSpread}
use Rattle.gql_ast.specs.declared.selection.InlineFragment.{InlineFragment}
use Rattle.gql_ast.specs.declared.selection.Selection.{Selection, Field as a_field, InlineFragment as an_inline_fragment}
use Rattle.gql_ast.specs.declared.selection.Selection.TheVariants.{FragmentSpread as a_spread}
use Rattle.gql_ast.specs.declared.operation.VariableDefinition.{VariableDefinition}
use Rattle.gql_ast.specs.declared.operation.OperationDefinition.{OperationDefinition}
use Rattle.gql_ast.specs.declared.operation.FragmentDefinition.{FragmentDefinition}
use Rattle.gql_ast.specs.declared.field_definition.FieldDefinition.{FieldDefinition}
use Rattle.gql_ast.specs.declared.field_definition.InputValueDefinition.{InputValueDefinition}
use Rattle.gql_ast.specs.declared.field_definition.EnumValueDefinition.{EnumValueDefinition}
use Rattle.gql_ast.specs.declared.schema_definition.SchemaDefinition.{SchemaDefinition}
use Rattle.gql_ast.specs.declared.schema_definition.DirectiveDefinition.{DirectiveDefinition}
use Rattle.gql_ast.specs.declared.type_definition.ScalarTypeDefinition.{ScalarTypeDefinition}
use Rattle.gql_ast.specs.declared.type_definition.ObjectTypeDefinition.{ObjectTypeDefinition}
use Rattle.gql_ast.specs.declared.type_definition.InterfaceTypeDefinition.{InterfaceTypeDefinition}
use Rattle.gql_ast.specs.declared.type_definition.UnionTypeDefinition.{UnionTypeDefinition}
use Rattle.gql_ast.specs.declared.type_definition.EnumTypeDefinition.{EnumTypeDefinition}
use Rattle.gql_ast.specs.declared.type_definition.InputObjectTypeDefinition.{InputObjectTypeDefinition}
use Rattle.gql_ast.specs.declared.definition.Definition.{Definition}
use Rattle.gql_ast.specs.declared.definition.Definition.TheVariants as definition
use Rattle.gql_ast_reader.specs.declared.part.Part.{Part}
use Rattle.gql_ast_reader.specs.declared.part.Part.TheVariants as part
use Rattle.gql_ast_reader.specs.declared.part.Item.TheVariants as item
use Rattle.gql_ast_reader.specs.declared.part.Group.TheVariants as group
use Rattle.gql_ast_reader.specs.declared.part.Role.TheVariants as role
use Rattle.gql_ast_reader.specs.declared.row.Row.{Row}
use Rattle.gql_ast_reader.specs.declared.row.Own.{Own}
use Rattle.gql_ast_reader.specs.declared.row.Own.TheVariants as own
use Rattle.gql_ast_reader.specs.bridge.Extending.{extension_made}
use Rattle.gql_ast_reader.specs.bridge.Places.{text_there, name_there}
use Rattle.gql_ast_reader.specs.bridge.Standing.{joined, listed}

-- ---- what a row keeps that is of one sort alone

abbrev pub own_content : Own → Option ValueKind
own_content (own.Content found) = found
own_content _ = None

abbrev pub own_text : Own → Option Text
own_text (own.Text found) = found
own_text _ = None

abbrev pub own_value : Own → Option Value
own_value (own.Value found) = found
own_value _ = None

abbrev pub own_choice : Own → Option Selection
own_choice (own.Choice found) = found
own_choice _ = None

abbrev pub own_defined : Own → Option Definition
own_defined (own.Defined found) = found
own_defined _ = None

abbrev pub own_arguments : Own → List Argument
own_arguments (own.Arguments list) = list
own_arguments _ = []

abbrev pub own_directives : Own → List Directive
own_directives (own.Directives list) = list
own_directives _ = []

abbrev pub own_selections : Own → List Selection
own_selections (own.Selections list) = list
own_selections _ = []

abbrev pub own_values : Own → List Value
own_values (own.Values list) = list
own_values _ = []

abbrev pub own_pairs : Own → List (Named × Value)
own_pairs (own.Pairs list) = list
own_pairs _ = []

abbrev pub own_variables : Own → List VariableDefinition
own_variables (own.Variables list) = list
own_variables _ = []

abbrev pub own_inputs : Own → List InputValueDefinition
own_inputs (own.Inputs list) = list
own_inputs _ = []

abbrev pub own_fields : Own → List FieldDefinition
own_fields (own.Fields list) = list
own_fields _ = []

abbrev pub own_enum_values : Own → List EnumValueDefinition
own_enum_values (own.EnumValues list) = list
own_enum_values _ = []

abbrev pub own_names : Own → List Named
own_names (own.Names list) = list
own_names _ = []

abbrev pub own_definitions : Own → List Definition
own_definitions (own.Definitions list) = list
own_definitions _ = []

-- ---- each sort of node

abbrev pub boolean_made : Text → Row → Option ValueKind
boolean_made text row = option_map Boolean (option_and_then truth (text_there text row.words.one))

abbrev pub operation_made : Text → Row → Option OperationType
operation_made text row = option_and_then operation_word (text_there text row.words.one)

abbrev pub value_made : Row → Option Span → Option Value
value_made row place = option_map (λ found. record { kind = found; location = place }) (own_content row.own)

module _ (text : Text) (file : FileId) where
  abbrev pub pair_made : Row → Option (Named × Value)
  pair_made row = pair_of text file (name_there text file row.words.one) (own_value row.own)

  abbrev pub argument_made : Row → Option Span → Option Argument
  argument_made row place =
      option_and_then (λ name. option_map (λ value. record { name = name; value = value; location = place }) (own_value row.own))
      (name_there text file row.words.one)

  abbrev pub directive_made : Row → Option Span → Option Directive
  directive_made row place =
      option_map (λ name. record { name = name; arguments = listed row.groups.arguments; location = place }) (name_there text file row.words.one)

  abbrev pub root_operation_made : Row → Option (OperationType × Named)
  root_operation_made row =
      option_and_then (λ operation. option_map (λ name. (operation, name)) (name_there text file (joined row.roles.named_type))) row.singles.operation

  abbrev pub field_made : Row → Option Span → Option Field
  field_made row place =
      option_map (λ name. record {
        alias = name_there text file (joined row.roles.alias);
        name = name;
        arguments = listed row.groups.arguments;
        directives = listed row.groups.directives;
        selection_set = listed row.groups.selections;
        location = place;
      }) (name_there text file row.words.one)

  abbrev pub spread_made : Row → Option Span → Option FragmentSpread
  spread_made row place =
      option_map (λ name. record { fragment_name = name; directives = listed row.groups.directives; location = place })
      (name_there text file (joined row.roles.fragment_name))

  abbrev pub inline_made : Row → Option Span → Option InlineFragment
  inline_made row place =
      option_map (λ set. record {
        type_condition = name_there text file (joined row.roles.type_condition);
        directives = listed row.groups.directives;
        selection_set = set;
        location = place;
      }) row.groups.selections

  abbrev pub variable_made : Row → Option Span → Option VariableDefinition
  variable_made row place =
      option_and_then (λ name. option_map (λ ty. record {
        name = name;
        ty = ty;
        default_value = joined row.singles.default_value;
        directives = listed row.groups.directives;
        location = place;
      }) row.singles.ty) (name_there text file (joined row.roles.variable))

  abbrev pub input_made : Row → Option Span → Option InputValueDefinition
  input_made row place =
      option_and_then (λ name. option_map (λ ty. record {
        description = joined row.singles.description;
        name = name;
        ty = ty;
        default_value = joined row.singles.default_value;
        directives = listed row.groups.directives;
        location = place;
      }) row.singles.ty) (name_there text file row.words.one)

  abbrev pub field_definition_made : Row → Option Span → Option FieldDefinition
  field_definition_made row place =
      option_and_then (λ name. option_map (λ ty. record {
        description = joined row.singles.description;
        name = name;
        arguments = listed row.groups.inputs;
        ty = ty;
        directives = listed row.groups.directives;
        location = place;
      }) row.singles.ty) (name_there text file row.words.one)

  abbrev pub enum_value_made : Row → Option Span → Option EnumValueDefinition
  enum_value_made row place =
      option_map (λ value. record {
        description = joined row.singles.description;
        value = value;
        directives = listed row.groups.directives;
        location = place;
      }) (name_there text file (joined row.roles.enum_value))

  abbrev pub operation_definition_made : Row → Option Span → Option OperationDefinition
  operation_definition_made row place =
      option_map (λ set. record {
        operation_type = unwrap_or row.singles.operation Query;
        name = name_there text file row.words.one;
        variables = listed row.groups.variables;
        directives = listed row.groups.directives;
        selection_set = set;
        location = place;
      }) row.groups.selections

  abbrev pub fragment_made : Row → Option Span → Option FragmentDefinition
  fragment_made row place =
      option_and_then (λ set. option_and_then (λ name. option_map (λ condition. record {
        name = name;
        type_condition = condition;
        directives = listed row.groups.directives;
        selection_set = set;
        location = place;
      }) (name_there text file (joined row.roles.type_condition))) (name_there text file (joined row.roles.fragment_name))) row.groups.selections

  abbrev pub schema_made : Row → Option Span → SchemaDefinition
  schema_made row place = record {
    description = joined row.singles.description;
    directives = listed row.groups.directives;
    root_operations = row.root_operations;
    location = place;
  }

  abbrev pub directive_definition_made : Row → Option Span → Option DirectiveDefinition
  directive_definition_made row place =
      option_map (λ name. record {
        description = joined row.singles.description;
        name = name;
        arguments = listed row.groups.inputs;
        repeatable = is_word (text_there text row.words.three) (codes "repeatable");
        locations = row.words.locations;
        location = place;
      }) (name_there text file row.words.two)

  -- definitions of types
  abbrev pub scalar_made : Row → Option Span → Option ScalarTypeDefinition
  scalar_made row place =
      option_map (λ name. record {
        description = joined row.singles.description;
        name = name;
        directives = listed row.groups.directives;
        location = place;
      }) (name_there text file row.words.two)

  abbrev pub object_made : Row → Option Span → Option ObjectTypeDefinition
  object_made row place =
      option_map (λ name. record {
        description = joined row.singles.description;
        name = name;
        implements_interfaces = listed row.groups.interfaces;
        directives = listed row.groups.directives;
        fields = listed row.groups.fields;
        location = place;
      }) (name_there text file row.words.two)

  abbrev pub interface_made : Row → Option Span → Option InterfaceTypeDefinition
  interface_made row place =
      option_map (λ name. record {
        description = joined row.singles.description;
        name = name;
        implements_interfaces = listed row.groups.interfaces;
        directives = listed row.groups.directives;
        fields = listed row.groups.fields;
        location = place;
      }) (name_there text file row.words.two)

  abbrev pub union_made : Row → Option Span → Option UnionTypeDefinition
  union_made row place =
      option_map (λ name. record {
        description = joined row.singles.description;
        name = name;
        directives = listed row.groups.directives;
        members = listed row.groups.members;
        location = place;
      }) (name_there text file row.words.two)

  abbrev pub enum_made : Row → Option Span → Option EnumTypeDefinition
  enum_made row place =
      option_map (λ name. record {
        description = joined row.singles.description;
        name = name;
        directives = listed row.groups.directives;
        values = listed row.groups.enum_values;
        location = place;
      }) (name_there text file row.words.two)

  abbrev pub input_object_made : Row → Option Span → Option InputObjectTypeDefinition
  input_object_made row place =
      option_map (λ name. record {
        description = joined row.singles.description;
        name = name;
        directives = listed row.groups.directives;
        fields = listed row.groups.input_fields;
        location = place;
      }) (name_there text file row.words.two)

  -- ---- by the kind of the node
  abbrev pub made : SyntaxKind → Row → Option Span → Option Part
  made kind.Token row place = None
  made kind.Ignored row place = None
  made kind.Document row place = None
  made kind.Definition row place = Some (part.Item (item.Definition (own_defined row.own)))
  made kind.OperationDefinition row place = Some (part.Item (item.Defined (option_map definition.OperationDefinition (operation_definition_made row place))))
  made kind.OperationType row place = Some (part.Operation (operation_made text row))
  made kind.SelectionSet row place = Some (part.Group (group.Selections (own_selections row.own)))
  made kind.Selection row place = Some (part.Item (item.Selection (own_choice row.own)))
  made kind.Field row place = Some (part.Item (item.Choice (option_map a_field (field_made row place))))
  made kind.Alias row place = Some (part.Named role.Alias row.words.one)
  made kind.Arguments row place = Some (part.Group (group.Arguments (own_arguments row.own)))
  made kind.Argument row place = Some (part.Item (item.Argument (argument_made row place)))
  made kind.FragmentSpread row place = Some (part.Item (item.Choice (option_map a_spread (spread_made row place))))
  made kind.InlineFragment row place = Some (part.Item (item.Choice (option_map an_inline_fragment (inline_made row place))))
  made kind.FragmentDefinition row place = Some (part.Item (item.Defined (option_map definition.FragmentDefinition (fragment_made row place))))
  made kind.FragmentName row place = Some (part.Named role.FragmentName row.words.one)
  made kind.TypeCondition row place = Some (part.Named role.TypeCondition (joined row.roles.named_type))
  made kind.Value row place = Some (part.Item (item.Value (value_made row place)))
  made kind.BooleanValue row place = Some (part.Item (item.Content (boolean_made text row)))
  made kind.NullValue row place = Some (part.Item (item.Content (Some Null)))
  made kind.EnumValue row place = Some (part.Named role.EnumValue row.words.one)
  made kind.Variable row place = Some (part.Named role.Variable row.words.one)
  made kind.ListValue row place = Some (part.Item (item.Content (Some (ListKind (own_values row.own)))))
  made kind.ObjectValue row place = Some (part.Item (item.Content (Some (ObjectKind (own_pairs row.own)))))
  made kind.ObjectField row place = Some (part.Item (item.Pair (pair_made row)))
  made kind.VariableDefinitions row place = Some (part.Group (group.Variables (own_variables row.own)))
  made kind.VariableDefinition row place = Some (part.Item (item.Variable (variable_made row place)))
  made kind.DefaultValue row place = Some (part.DefaultValue (own_value row.own))
  made kind.TypeReference row place = Some (part.Type row.singles.form)
  made kind.NamedType row place = Some (part.Named role.NamedType row.words.one)
  made kind.ListType row place = Some (part.Form (option_map ListOf row.singles.ty))
  made kind.NonNullType row place = Some (part.Form (option_map non_null row.singles.form))
  made kind.Directives row place = Some (part.Group (group.Directives (own_directives row.own)))
  made kind.Directive row place = Some (part.Item (item.Directive (directive_made row place)))
  made kind.Description row place = Some (part.Description (own_text row.own))
  made kind.SchemaDefinition row place = Some (part.Item (item.Defined (Some (definition.SchemaDefinition (schema_made row place)))))
  made kind.RootOperationTypeDefinition row place = Some (part.RootOperation (root_operation_made row))
  made kind.ScalarTypeDefinition row place = Some (part.Item (item.Defined (option_map definition.ScalarTypeDefinition (scalar_made row place))))
  made kind.ObjectTypeDefinition row place = Some (part.Item (item.Defined (option_map definition.ObjectTypeDefinition (object_made row place))))
  made kind.InterfaceTypeDefinition row place = Some (part.Item (item.Defined (option_map definition.InterfaceTypeDefinition (interface_made row place))))
  made kind.ImplementsInterfaces row place = Some (part.Group (group.Interfaces (own_names row.own)))
  made kind.FieldsDefinition row place = Some (part.Group (group.Fields (own_fields row.own)))
  made kind.FieldDefinition row place = Some (part.Item (item.Field (field_definition_made row place)))
  made kind.ArgumentsDefinition row place = Some (part.Group (group.Inputs (own_inputs row.own)))
  made kind.InputValueDefinition row place = Some (part.Item (item.Input (input_made row place)))
  made kind.UnionTypeDefinition row place = Some (part.Item (item.Defined (option_map definition.UnionTypeDefinition (union_made row place))))
  made kind.UnionMemberTypes row place = Some (part.Group (group.Members (own_names row.own)))
  made kind.EnumTypeDefinition row place = Some (part.Item (item.Defined (option_map definition.EnumTypeDefinition (enum_made row place))))
  made kind.EnumValuesDefinition row place = Some (part.Group (group.EnumValues (own_enum_values row.own)))
  made kind.EnumValueDefinition row place = Some (part.Item (item.EnumValue (enum_value_made row place)))
  made kind.InputObjectTypeDefinition row place =
      Some (part.Item (item.Defined (option_map definition.InputObjectTypeDefinition (input_object_made row place))))
  made kind.InputFieldsDefinition row place = Some (part.Group (group.InputFields (own_inputs row.own)))
  made kind.DirectiveDefinition row place = Some (part.Item (item.Defined (option_map definition.DirectiveDefinition (directive_definition_made row place))))
  made kind.Extension row place = Some (part.Item (item.Defined (extension_made text file row place)))
  made kind.FieldSet row place = None
