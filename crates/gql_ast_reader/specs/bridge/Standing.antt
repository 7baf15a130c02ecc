-- What a tree stands for in the row that it is a part of, by its kind: what the conversions say of it.
use Rattle.std.specs.Prelude.{Option, Some, None, option_and_then, List, [], unwrap_or}
use Rattle.std.specs.Option.{option_map}
use Rattle.gql_source.specs.declared.file_id.FileId.{FileId}
use Rattle.gql_ast_base.specs.Forest.{Forest, Plain}
use Rattle.gql_ast_base.specs.SyntaxKind.{SyntaxKind}
use Rattle.gql_ast_base.specs.SyntaxKind.TheVariants as kind
use Rattle.gql_ast_base.specs.Parts.{Text, gather, first, child}
use Rattle.gql_ast_base.specs.Directives.{argument_of, directive_of}
use Rattle.gql_ast_base.specs.Literals.{string_of}
use Rattle.gql_ast_base.specs.NamedTypes.{named_type_of}
use Rattle.gql_ast_base.specs.OperationTypes.{operation_type_of, root_operation_of}
use Rattle.gql_ast_base.specs.Types.{type_of}
use Rattle.gql_ast_base.specs.bridge.Types.{form_of}
use Rattle.gql_ast_base.specs.Values.{value_of}
use Rattle.gql_ast_base.specs.bridge.Values.{content_of, member_of}
use Rattle.gql_ast.specs.Selections as selections
use Rattle.gql_ast.specs.bridge.Selections as selections_bridge
use Rattle.gql_ast.specs.Operations.{variable_of}
use Rattle.gql_ast.specs.Fields.{input_value_of, field_of, enum_value_of}
use Rattle.gql_ast.specs.Documents as documents
use Rattle.gql_ast_reader.specs.declared.part.Part.{Part}
use Rattle.gql_ast_reader.specs.declared.part.Part.TheVariants as part
use Rattle.gql_ast_reader.specs.declared.part.Item.TheVariants as item
use Rattle.gql_ast_reader.specs.declared.part.Group.TheVariants as group
use Rattle.gql_ast_reader.specs.declared.part.Role.TheVariants as role
use Rattle.gql_ast_reader.specs.bridge.Places.{place_of, first_word, token_part_at}

-- what is made of the children of the first tree of the kind
abbrev pub in_first : {T : Type 0} → SyntaxKind → (Forest → T) → Forest → Option T
in_first kind of row = option_map (λ tree. of tree.children) (child kind row)

-- the same, where that may be nothing
abbrev pub joined : {T : Type 0} → Option (Option T) → Option T
joined found = option_and_then (λ inner. inner) found

-- a list, or none
abbrev pub listed : {T : Type 0} → Option (List T) → List T
listed list = unwrap_or list []

module _ (text : Text) (file : FileId) where
  abbrev pub part_at : SyntaxKind → Plain → Option Part
  part_at kind.Token tree = token_part_at text (place_of tree)
  part_at kind.Ignored tree = None
  part_at kind.Document tree = None
  part_at kind.Definition tree = Some (part.Item (item.Definition (documents.definition_of text file tree)))
  part_at kind.OperationDefinition tree = Some (part.Item (item.Defined (documents.choice_of text file tree)))
  part_at kind.OperationType tree = Some (part.Operation (operation_type_of text tree))
  part_at kind.SelectionSet tree = Some (part.Group (group.Selections (gather (selections.selection_of text file) tree.children)))
  part_at kind.Selection tree = Some (part.Item (item.Selection (selections.selection_of text file tree)))
  part_at kind.Field tree = Some (part.Item (item.Choice (selections_bridge.choice_of text file tree)))
  part_at kind.Alias tree = Some (part.Named role.Alias (first_word text tree.children))
  part_at kind.Arguments tree = Some (part.Group (group.Arguments (gather (argument_of text file) tree.children)))
  part_at kind.Argument tree = Some (part.Item (item.Argument (argument_of text file tree)))
  part_at kind.FragmentSpread tree = Some (part.Item (item.Choice (selections_bridge.choice_of text file tree)))
  part_at kind.InlineFragment tree = Some (part.Item (item.Choice (selections_bridge.choice_of text file tree)))
  part_at kind.FragmentDefinition tree = Some (part.Item (item.Defined (documents.choice_of text file tree)))
  part_at kind.FragmentName tree = Some (part.Named role.FragmentName (first_word text tree.children))
  part_at kind.TypeCondition tree = Some (part.Named role.TypeCondition (joined (in_first kind.NamedType (first_word text) tree.children)))
  part_at kind.Value tree = Some (part.Item (item.Value (value_of text file tree)))
  part_at kind.BooleanValue tree = Some (part.Item (item.Content (content_of text file tree)))
  part_at kind.NullValue tree = Some (part.Item (item.Content (content_of text file tree)))
  part_at kind.EnumValue tree = Some (part.Named role.EnumValue (first_word text tree.children))
  part_at kind.Variable tree = Some (part.Named role.Variable (first_word text tree.children))
  part_at kind.ListValue tree = Some (part.Item (item.Content (content_of text file tree)))
  part_at kind.ObjectValue tree = Some (part.Item (item.Content (content_of text file tree)))
  part_at kind.ObjectField tree = Some (part.Item (item.Pair (member_of text file tree)))
  part_at kind.VariableDefinitions tree = Some (part.Group (group.Variables (gather (variable_of text file) tree.children)))
  part_at kind.VariableDefinition tree = Some (part.Item (item.Variable (variable_of text file tree)))
  part_at kind.DefaultValue tree = Some (part.DefaultValue (first (value_of text file) tree.children))
  part_at kind.TypeReference tree = Some (part.Type (type_of text file tree))
  part_at kind.NamedType tree = Some (part.Named role.NamedType (first_word text tree.children))
  part_at kind.ListType tree = Some (part.Form (form_of text file tree))
  part_at kind.NonNullType tree = Some (part.Form (form_of text file tree))
  part_at kind.Directives tree = Some (part.Group (group.Directives (gather (directive_of text file) tree.children)))
  part_at kind.Directive tree = Some (part.Item (item.Directive (directive_of text file tree)))
  part_at kind.Description tree = Some (part.Description (first (string_of text) tree.children))
  part_at kind.SchemaDefinition tree = Some (part.Item (item.Defined (documents.choice_of text file tree)))
  part_at kind.RootOperationTypeDefinition tree = Some (part.RootOperation (root_operation_of text file tree))
  part_at kind.ScalarTypeDefinition tree = Some (part.Item (item.Defined (documents.choice_of text file tree)))
  part_at kind.ObjectTypeDefinition tree = Some (part.Item (item.Defined (documents.choice_of text file tree)))
  part_at kind.InterfaceTypeDefinition tree = Some (part.Item (item.Defined (documents.choice_of text file tree)))
  part_at kind.ImplementsInterfaces tree = Some (part.Group (group.Interfaces (gather (named_type_of text file) tree.children)))
  part_at kind.FieldsDefinition tree = Some (part.Group (group.Fields (gather (field_of text file) tree.children)))
  part_at kind.FieldDefinition tree = Some (part.Item (item.Field (field_of text file tree)))
  part_at kind.ArgumentsDefinition tree = Some (part.Group (group.Inputs (gather (input_value_of text file) tree.children)))
  part_at kind.InputValueDefinition tree = Some (part.Item (item.Input (input_value_of text file tree)))
  part_at kind.UnionTypeDefinition tree = Some (part.Item (item.Defined (documents.choice_of text file tree)))
  part_at kind.UnionMemberTypes tree = Some (part.Group (group.Members (gather (named_type_of text file) tree.children)))
  part_at kind.EnumTypeDefinition tree = Some (part.Item (item.Defined (documents.choice_of text file tree)))
  part_at kind.EnumValuesDefinition tree = Some (part.Group (group.EnumValues (gather (enum_value_of text file) tree.children)))
  part_at kind.EnumValueDefinition tree = Some (part.Item (item.EnumValue (enum_value_of text file tree)))
  part_at kind.InputObjectTypeDefinition tree = Some (part.Item (item.Defined (documents.choice_of text file tree)))
  part_at kind.InputFieldsDefinition tree = Some (part.Group (group.InputFields (gather (input_value_of text file) tree.children)))
  part_at kind.DirectiveDefinition tree = Some (part.Item (item.Defined (documents.choice_of text file tree)))
  part_at kind.Extension tree = Some (part.Item (item.Defined (documents.choice_of text file tree)))
  part_at kind.FieldSet tree = None

  abbrev pub part_of : Plain → Option Part
  part_of tree = part_at tree.kind tree
