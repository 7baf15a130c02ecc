-- What sorts of parts nodes are in the rows around them.
use Rattle.std.specs.Prelude.{Bool, true, false}
use Rattle.gql_ast_base.specs.SyntaxKind.{SyntaxKind}
use Rattle.gql_ast_base.specs.SyntaxKind.TheVariants as kind

-- the node has one name in it
abbrev pub is_named : SyntaxKind → Bool
is_named kind.Alias = true
is_named kind.FragmentName = true
is_named kind.TypeCondition = true
is_named kind.EnumValue = true
is_named kind.Variable = true
is_named kind.NamedType = true
is_named _ = false

-- the node is one of which a row keeps the first of its sort, and no list; or a root operation
abbrev pub is_single : SyntaxKind → Bool
is_single kind.OperationType = true
is_single kind.RootOperationTypeDefinition = true
is_single kind.TypeReference = true
is_single kind.ListType = true
is_single kind.NonNullType = true
is_single kind.DefaultValue = true
is_single kind.Description = true
is_single _ = false

-- the node is a list
abbrev pub is_list : SyntaxKind → Bool
is_list kind.Arguments = true
is_list kind.Directives = true
is_list kind.SelectionSet = true
is_list kind.VariableDefinitions = true
is_list kind.ArgumentsDefinition = true
is_list kind.InputFieldsDefinition = true
is_list kind.FieldsDefinition = true
is_list kind.EnumValuesDefinition = true
is_list kind.ImplementsInterfaces = true
is_list kind.UnionMemberTypes = true
is_list _ = false

-- the node is a definition or an extension
abbrev pub defines : SyntaxKind → Bool
defines kind.OperationDefinition = true
defines kind.FragmentDefinition = true
defines kind.SchemaDefinition = true
defines kind.DirectiveDefinition = true
defines kind.ScalarTypeDefinition = true
defines kind.ObjectTypeDefinition = true
defines kind.InterfaceTypeDefinition = true
defines kind.UnionTypeDefinition = true
defines kind.EnumTypeDefinition = true
defines kind.InputObjectTypeDefinition = true
defines kind.Extension = true
defines _ = false

-- the node is one of many of its sort, or what the node around it is
abbrev pub is_item : SyntaxKind → Bool
is_item kind.Value = true
is_item kind.BooleanValue = true
is_item kind.NullValue = true
is_item kind.ListValue = true
is_item kind.ObjectValue = true
is_item kind.ObjectField = true
is_item kind.Argument = true
is_item kind.Directive = true
is_item kind.Field = true
is_item kind.FragmentSpread = true
is_item kind.InlineFragment = true
is_item kind.Selection = true
is_item kind.VariableDefinition = true
is_item kind.InputValueDefinition = true
is_item kind.FieldDefinition = true
is_item kind.EnumValueDefinition = true
is_item kind.Definition = true
is_item kind = defines kind
