-- The kinds of nodes that rules make.
use Rattle.std.specs.Prelude.{Option, Some, None}
use Rattle.gql_grammar.specs.declared.rule.Rule.{Rule}
use Rattle.gql_grammar.specs.declared.rule.Rule.TheVariants.{Document, Definition, OperationDefinition, OperationType, SelectionSet, Selection}
use Rattle.gql_grammar.specs.declared.rule.Rule.TheVariants.{Field, Alias, Arguments, Argument, FragmentSpread, InlineFragment}
use Rattle.gql_grammar.specs.declared.rule.Rule.TheVariants.{FragmentDefinition, FragmentName, TypeCondition, Value, ConstValue, BooleanValue}
use Rattle.gql_grammar.specs.declared.rule.Rule.TheVariants.{NullValue, EnumValue, Variable, ListValue, ConstListValue, ObjectValue}
use Rattle.gql_grammar.specs.declared.rule.Rule.TheVariants.{ConstObjectValue, ObjectField, ConstObjectField, VariableDefinitions}
use Rattle.gql_grammar.specs.declared.rule.Rule.TheVariants.{VariableDefinition, DefaultValue, TypeReference, NamedType, ListType, NonNullType}
use Rattle.gql_grammar.specs.declared.rule.Rule.TheVariants.{Directives, ConstDirectives, Directive, ConstDirective, ConstArguments}
use Rattle.gql_grammar.specs.declared.rule.Rule.TheVariants.{ConstArgument, Description, SchemaDefinition, RootOperationTypeDefinition}
use Rattle.gql_grammar.specs.declared.rule.Rule.TheVariants.{ScalarTypeDefinition, ObjectTypeDefinition, InterfaceTypeDefinition}
use Rattle.gql_grammar.specs.declared.rule.Rule.TheVariants.{ImplementsInterfaces, FieldsDefinition, FieldDefinition, ArgumentsDefinition}
use Rattle.gql_grammar.specs.declared.rule.Rule.TheVariants.{InputValueDefinition, UnionTypeDefinition, UnionMemberTypes, EnumTypeDefinition}
use Rattle.gql_grammar.specs.declared.rule.Rule.TheVariants.{EnumValuesDefinition, EnumValueDefinition, InputObjectTypeDefinition}
use Rattle.gql_grammar.specs.declared.rule.Rule.TheVariants.{InputFieldsDefinition, DirectiveDefinition, Extension, FieldSet, OperationName}
use Rattle.gql_grammar.specs.declared.rule.Rule.TheVariants.{TypeCore, RootOperations, AmpersandSign, AmpersandType, BarSign, BarType}
use Rattle.gql_grammar.specs.declared.rule.Rule.TheVariants.{BarLocation, RepeatableSign, ExtendedDefinition, SchemaParts, ObjectParts}
use Rattle.gql_grammar.specs.declared.rule.Rule.TheVariants.{UnionParts, EnumParts, InputParts, DescribedDefinition, AfterSpread, AliasTail}
use Rattle.gql_grammar.specs.declared.rule.Rule.TheVariants.{BangTail}
use Rattle.gql_grammar.specs.declared.syntax_kind.SyntaxKind.{SyntaxKind}
use Rattle.gql_grammar.specs.declared.syntax_kind.SyntaxKind.TheVariants as kind

-- the kind of the node that the rule makes. A group makes none: its parts stand in the node around it
abbrev pub kind_of : Rule → Option SyntaxKind
kind_of Document = Some kind.Document
kind_of Definition = Some kind.Definition
kind_of OperationDefinition = Some kind.OperationDefinition
kind_of OperationType = Some kind.OperationType
kind_of SelectionSet = Some kind.SelectionSet
kind_of Selection = Some kind.Selection
kind_of Field = Some kind.Field
kind_of Alias = Some kind.Alias
kind_of Arguments = Some kind.Arguments
kind_of Argument = Some kind.Argument
kind_of FragmentSpread = Some kind.FragmentSpread
kind_of InlineFragment = Some kind.InlineFragment
kind_of FragmentDefinition = Some kind.FragmentDefinition
kind_of FragmentName = Some kind.FragmentName
kind_of TypeCondition = Some kind.TypeCondition
kind_of Value = Some kind.Value
kind_of ConstValue = Some kind.Value
kind_of BooleanValue = Some kind.BooleanValue
kind_of NullValue = Some kind.NullValue
kind_of EnumValue = Some kind.EnumValue
kind_of Variable = Some kind.Variable
kind_of ListValue = Some kind.ListValue
kind_of ConstListValue = Some kind.ListValue
kind_of ObjectValue = Some kind.ObjectValue
kind_of ConstObjectValue = Some kind.ObjectValue
kind_of ObjectField = Some kind.ObjectField
kind_of ConstObjectField = Some kind.ObjectField
kind_of VariableDefinitions = Some kind.VariableDefinitions
kind_of VariableDefinition = Some kind.VariableDefinition
kind_of DefaultValue = Some kind.DefaultValue
kind_of TypeReference = Some kind.TypeReference
kind_of NamedType = Some kind.NamedType
kind_of ListType = Some kind.ListType
kind_of NonNullType = Some kind.NonNullType
kind_of Directives = Some kind.Directives
kind_of ConstDirectives = Some kind.Directives
kind_of Directive = Some kind.Directive
kind_of ConstDirective = Some kind.Directive
kind_of ConstArguments = Some kind.Arguments
kind_of ConstArgument = Some kind.Argument
kind_of Description = Some kind.Description
kind_of SchemaDefinition = Some kind.SchemaDefinition
kind_of RootOperationTypeDefinition = Some kind.RootOperationTypeDefinition
kind_of ScalarTypeDefinition = Some kind.ScalarTypeDefinition
kind_of ObjectTypeDefinition = Some kind.ObjectTypeDefinition
kind_of InterfaceTypeDefinition = Some kind.InterfaceTypeDefinition
kind_of ImplementsInterfaces = Some kind.ImplementsInterfaces
kind_of FieldsDefinition = Some kind.FieldsDefinition
kind_of FieldDefinition = Some kind.FieldDefinition
kind_of ArgumentsDefinition = Some kind.ArgumentsDefinition
kind_of InputValueDefinition = Some kind.InputValueDefinition
kind_of UnionTypeDefinition = Some kind.UnionTypeDefinition
kind_of UnionMemberTypes = Some kind.UnionMemberTypes
kind_of EnumTypeDefinition = Some kind.EnumTypeDefinition
kind_of EnumValuesDefinition = Some kind.EnumValuesDefinition
kind_of EnumValueDefinition = Some kind.EnumValueDefinition
kind_of InputObjectTypeDefinition = Some kind.InputObjectTypeDefinition
kind_of InputFieldsDefinition = Some kind.InputFieldsDefinition
kind_of DirectiveDefinition = Some kind.DirectiveDefinition
kind_of Extension = Some kind.Extension
kind_of FieldSet = Some kind.FieldSet
kind_of OperationName = None
kind_of TypeCore = None
kind_of RootOperations = None
kind_of AmpersandSign = None
kind_of AmpersandType = None
kind_of BarSign = None
kind_of BarType = None
kind_of BarLocation = None
kind_of RepeatableSign = None
kind_of ExtendedDefinition = None
kind_of SchemaParts = None
kind_of ObjectParts = None
kind_of UnionParts = None
kind_of EnumParts = None
kind_of InputParts = None
kind_of DescribedDefinition = None
kind_of AfterSpread = None
kind_of AliasTail = None
kind_of BangTail = None
