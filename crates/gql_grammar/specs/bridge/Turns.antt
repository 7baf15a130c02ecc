-- How many turns a stack takes at most until a word is read.
use Rattle.std.specs.Prelude.{ℕ, ◌+◌, List, [], ◌∷◌}
use Rattle.gql_grammar.specs.declared.symbol.Symbol.{Symbol}
use Rattle.gql_grammar.specs.declared.symbol.Symbol.TheVariants.{Token, One, Optional, Repeated, Eager, Wrap, Close}
use Rattle.gql_grammar.specs.declared.rule.Rule.{Rule}
use Rattle.gql_grammar.specs.declared.rule.Rule.TheVariants.{Document, Definition, OperationDefinition, OperationType, SelectionSet, Selection}
use Rattle.gql_grammar.specs.declared.rule.Rule.TheVariants.{Field, Alias, Arguments, Argument, FragmentSpread, InlineFragment}
use Rattle.gql_grammar.specs.declared.rule.Rule.TheVariants.{FragmentDefinition, FragmentName, TypeCondition, Value, ConstValue, BooleanValue}
use Rattle.gql_grammar.specs.declared.rule.Rule.TheVariants.{NullValue, EnumValue, Variable, ListValue, ConstListValue, ObjectValue}
use Rattle.gql_grammar.specs.declared.rule.Rule.TheVariants.{ConstObjectValue, ObjectField, ConstObjectField, VariableDefinitions}
use Rattle.gql_grammar.specs.declared.rule.Rule.TheVariants.{VariableDefinition, DefaultValue, TypeReference, NamedType, ListType, NonNullType}
use Rattle.gql_grammar.specs.declared.rule.Rule.TheVariants.{Directives, ConstDirectives, Directive, ConstDirective, ConstArguments}
use Rattle.gql_grammar.specs.declared.rule.Rule.TheVariants.{ConstArgument, Description, SchemaDefinition, RootOperationTypeDefinition}
use Rattle.gql_grammar.specs.declared.rule.Rule.TheVariants.{ScalarTypeDefinition, ObjectTypeDefinition, InterfaceTypeDefinition}
use Rattle.gql_grammar.specs.declared.rule.Rule.TheVariants.{ImplementsInterfaces, FieldsDefinition, FieldDefinition, ArgumentsDefinition}
use Rattle.gql_grammar.specs.declared.rule.Rule.TheVariants.{InputValueDefinition, UnionTypeDefinition, UnionMemberTypes, EnumTypeDefinition}
use Rattle.gql_grammar.specs.declared.rule.Rule.TheVariants.{EnumValuesDefinition, EnumValueDefinition, InputObjectTypeDefinition}
use Rattle.gql_grammar.specs.declared.rule.Rule.TheVariants.{InputFieldsDefinition, DirectiveDefinition, Extension, FieldSet, OperationName}
use Rattle.gql_grammar.specs.declared.rule.Rule.TheVariants.{TypeCore, RootOperations, AmpersandSign, AmpersandType, BarSign, BarType}
use Rattle.gql_grammar.specs.declared.rule.Rule.TheVariants.{BarLocation, RepeatableSign, ExtendedDefinition, SchemaParts, ObjectParts}
use Rattle.gql_grammar.specs.declared.rule.Rule.TheVariants.{UnionParts, EnumParts, InputParts, DescribedDefinition, AfterSpread, AliasTail}
use Rattle.gql_grammar.specs.declared.rule.Rule.TheVariants.{BangTail}

-- at least the turns of each way to write the rule
abbrev pub rank : Rule → ℕ
rank Document = 6
rank Definition = 5
rank OperationDefinition = 2
rank OperationType = 1
rank SelectionSet = 1
rank Selection = 2
rank Field = 1
rank Alias = 1
rank Arguments = 1
rank Argument = 1
rank FragmentSpread = 1
rank InlineFragment = 1
rank FragmentDefinition = 1
rank FragmentName = 1
rank TypeCondition = 1
rank Value = 2
rank ConstValue = 2
rank BooleanValue = 1
rank NullValue = 1
rank EnumValue = 1
rank Variable = 1
rank ListValue = 1
rank ConstListValue = 1
rank ObjectValue = 1
rank ConstObjectValue = 1
rank ObjectField = 1
rank ConstObjectField = 1
rank VariableDefinitions = 1
rank VariableDefinition = 2
rank DefaultValue = 1
rank TypeReference = 3
rank NamedType = 1
rank ListType = 1
rank NonNullType = 3
rank Directives = 2
rank ConstDirectives = 2
rank Directive = 1
rank ConstDirective = 1
rank ConstArguments = 1
rank ConstArgument = 1
rank Description = 1
rank SchemaDefinition = 4
rank RootOperationTypeDefinition = 2
rank ScalarTypeDefinition = 4
rank ObjectTypeDefinition = 4
rank InterfaceTypeDefinition = 4
rank ImplementsInterfaces = 1
rank FieldsDefinition = 1
rank FieldDefinition = 4
rank ArgumentsDefinition = 1
rank InputValueDefinition = 4
rank UnionTypeDefinition = 4
rank UnionMemberTypes = 1
rank EnumTypeDefinition = 4
rank EnumValuesDefinition = 1
rank EnumValueDefinition = 5
rank InputObjectTypeDefinition = 4
rank InputFieldsDefinition = 1
rank DirectiveDefinition = 4
rank Extension = 1
rank FieldSet = 3
rank OperationName = 1
rank TypeCore = 2
rank RootOperations = 1
rank AmpersandSign = 1
rank AmpersandType = 1
rank BarSign = 1
rank BarType = 1
rank BarLocation = 1
rank RepeatableSign = 1
rank ExtendedDefinition = 1
rank SchemaParts = 3
rank ObjectParts = 3
rank UnionParts = 3
rank EnumParts = 3
rank InputParts = 3
rank DescribedDefinition = 1
rank AfterSpread = 9
rank AliasTail = 1
rank BangTail = 1

abbrev pub turns : List Symbol → ℕ
turns [] = 0
turns (Token t ∷ ss) = 1
turns (One r ∷ ss) = 1 + rank r
turns (Optional r ∷ ss) = 2 + rank r + turns ss
turns (Repeated r ∷ ss) = 2 + rank r + turns ss
turns (Eager r ∷ ss) = 2 + rank r + turns ss
turns (Wrap k ∷ ss) = 1 + turns ss
turns (Close k ∷ ss) = 1 + turns ss
