-- The grammar of GraphQL October 2021, appendix B.3: the ways to write each rule.
--
-- A rule whose name begins with `Const` is the constant form of the rule behind it, in which a variable is no value.
-- `Eager` stands for a part in braces that may be left out, unless the next word is `{`: `[lookahead ≠ {]`.
use Rattle.std.specs.Prelude.{List, [], ◌∷◌}
use Rattle.gql_grammar.specs.declared.word.Word.{Word}
use Rattle.gql_grammar.specs.declared.word.Word.TheVariants.{Bang, Dollar, Ampersand, ParenOpen, ParenClose, Spread, Colon, Equals, At}
use Rattle.gql_grammar.specs.declared.word.Word.TheVariants.{BracketOpen, BracketClose, BraceOpen, Bar, BraceClose, IntLiteral, FloatLiteral}
use Rattle.gql_grammar.specs.declared.word.Word.TheVariants.{StringLiteral, OperationWord, FragmentWord, OnWord, BooleanWord, NullWord}
use Rattle.gql_grammar.specs.declared.word.Word.TheVariants.{SchemaWord, ScalarWord, TypeWord, InterfaceWord, ImplementsWord, UnionWord, EnumWord}
use Rattle.gql_grammar.specs.declared.word.Word.TheVariants.{InputWord, DirectiveWord, RepeatableWord, ExtendWord, LocationWord}
use Rattle.gql_grammar.specs.declared.symbol.Terminal.TheVariants.{Exactly, AnyName, NameButOn, NameButLiteral}
use Rattle.gql_grammar.specs.declared.symbol.Symbol.{Symbol}
use Rattle.gql_grammar.specs.declared.symbol.Symbol.TheVariants.{Token, One, Optional, Repeated, Eager}
use Rattle.gql_grammar.specs.declared.rule.Rule.{Rule}
use Rattle.gql_grammar.specs.declared.rule.Rule.TheVariants.{Document, Definition, OperationDefinition, OperationType, SelectionSet, Selection}
use Rattle.gql_grammar.specs.declared.rule.Rule.TheVariants.{Field, Alias, Arguments, Argument, FragmentSpread, InlineFragment}
use Rattle.gql_grammar.specs.declared.rule.Rule.TheVariants.{FragmentDefinition, FragmentName, TypeCondition, Value, ConstValue, BooleanValue}
use Rattle.gql_grammar.specs.declared.rule.Rule.TheVariants.{NullValue, EnumValue, Variable, ListValue, ConstListValue, ObjectValue}
use Rattle.gql_grammar.specs.declared.rule.Rule.TheVariants.{ConstObjectValue, ObjectField, ConstObjectField, VariableDefinitions}
use Rattle.gql_grammar.specs.declared.rule.Rule.TheVariants.{VariableDefinition, DefaultValue, TypeReference, NamedType, ListType, NonNullType}
use Rattle.gql_grammar.specs.declared.rule.Rule.TheVariants.{Directives, ConstDirectives, Directive, ConstDirective, ConstArguments}
use Rattle.gql_grammar.specs.declared.rule.Rule.TheVariants.{ConstArgument, Description, SchemaDefinition, RootOperationTypeDefinition}
use Rattle.gql_grammar.specs.declared.rule.Rule.TheVariants.{ScalarTypeDefinition, ObjectTypeDefinition, InterfaceTypeDefinition}
use Rattle.gql_grammar.specs.declared.rule.Rule.TheVariants.{ImplementsInterfaces, FieldsDefinition, FieldDefinition, ArgumentsDefinition}
use Rattle.gql_grammar.specs.declared.rule.Rule.TheVariants.{InputValueDefinition, UnionTypeDefinition, UnionMemberTypes, EnumTypeDefinition}
use Rattle.gql_grammar.specs.declared.rule.Rule.TheVariants.{EnumValuesDefinition, EnumValueDefinition, InputObjectTypeDefinition}
use Rattle.gql_grammar.specs.declared.rule.Rule.TheVariants.{InputFieldsDefinition, DirectiveDefinition, Extension, FieldSet, OperationName}
use Rattle.gql_grammar.specs.declared.rule.Rule.TheVariants.{TypeCore, RootOperations, AmpersandSign, AmpersandType, BarSign, BarType}
use Rattle.gql_grammar.specs.declared.rule.Rule.TheVariants.{BarLocation, RepeatableSign, ExtendedDefinition, SchemaParts, ObjectParts}
use Rattle.gql_grammar.specs.declared.rule.Rule.TheVariants.{UnionParts, EnumParts, InputParts, DescribedDefinition, AfterSpread, AliasTail}
use Rattle.gql_grammar.specs.declared.rule.Rule.TheVariants.{BangTail}

-- the one word
abbrev pub word : Word → Symbol
word w = Token (Exactly w)

-- the ways to write a rule
abbrev pub Grammar : Type 0
Grammar = Rule → List (List Symbol)

abbrev pub declared : Grammar
declared Document = (One Definition ∷ Repeated Definition ∷ []) ∷ []
declared Definition =
    (One OperationDefinition ∷ []) ∷
    (One FragmentDefinition ∷ []) ∷
    (One SchemaDefinition ∷ []) ∷
    (One DirectiveDefinition ∷ []) ∷
    (One ScalarTypeDefinition ∷ []) ∷
    (One ObjectTypeDefinition ∷ []) ∷
    (One InterfaceTypeDefinition ∷ []) ∷
    (One UnionTypeDefinition ∷ []) ∷
    (One EnumTypeDefinition ∷ []) ∷
    (One InputObjectTypeDefinition ∷ []) ∷
    (One Extension ∷ []) ∷ []
declared OperationDefinition =
    (One SelectionSet ∷ []) ∷
    (One OperationType ∷ Optional OperationName ∷ Optional VariableDefinitions ∷ Optional Directives ∷ One SelectionSet ∷ []) ∷ []
declared OperationType = (word OperationWord ∷ []) ∷ []
declared SelectionSet = (word BraceOpen ∷ One Selection ∷ Repeated Selection ∷ word BraceClose ∷ []) ∷ []
declared Selection =
    (One Field ∷ []) ∷
    (One FragmentSpread ∷ []) ∷
    (One InlineFragment ∷ []) ∷ []
declared Field = (Optional Alias ∷ Token AnyName ∷ Optional Arguments ∷ Optional Directives ∷ Optional SelectionSet ∷ []) ∷ []
declared Alias = (Token AnyName ∷ word Colon ∷ []) ∷ []
declared Arguments = (word ParenOpen ∷ One Argument ∷ Repeated Argument ∷ word ParenClose ∷ []) ∷ []
declared Argument = (Token AnyName ∷ word Colon ∷ One Value ∷ []) ∷ []
declared FragmentSpread = (word Spread ∷ One FragmentName ∷ Optional Directives ∷ []) ∷ []
declared InlineFragment = (word Spread ∷ Optional TypeCondition ∷ Optional Directives ∷ One SelectionSet ∷ []) ∷ []
declared FragmentDefinition = (word FragmentWord ∷ One FragmentName ∷ One TypeCondition ∷ Optional Directives ∷ One SelectionSet ∷ []) ∷ []
declared FragmentName = (Token NameButOn ∷ []) ∷ []
declared TypeCondition = (word OnWord ∷ One NamedType ∷ []) ∷ []
declared Value =
    (One Variable ∷ []) ∷
    (word IntLiteral ∷ []) ∷
    (word FloatLiteral ∷ []) ∷
    (word StringLiteral ∷ []) ∷
    (One BooleanValue ∷ []) ∷
    (One NullValue ∷ []) ∷
    (One EnumValue ∷ []) ∷
    (One ListValue ∷ []) ∷
    (One ObjectValue ∷ []) ∷ []
declared ConstValue =
    (word IntLiteral ∷ []) ∷
    (word FloatLiteral ∷ []) ∷
    (word StringLiteral ∷ []) ∷
    (One BooleanValue ∷ []) ∷
    (One NullValue ∷ []) ∷
    (One EnumValue ∷ []) ∷
    (One ConstListValue ∷ []) ∷
    (One ConstObjectValue ∷ []) ∷ []
declared BooleanValue = (word BooleanWord ∷ []) ∷ []
declared NullValue = (word NullWord ∷ []) ∷ []
declared EnumValue = (Token NameButLiteral ∷ []) ∷ []
declared Variable = (word Dollar ∷ Token AnyName ∷ []) ∷ []
declared ListValue = (word BracketOpen ∷ Repeated Value ∷ word BracketClose ∷ []) ∷ []
declared ConstListValue = (word BracketOpen ∷ Repeated ConstValue ∷ word BracketClose ∷ []) ∷ []
declared ObjectValue = (word BraceOpen ∷ Repeated ObjectField ∷ word BraceClose ∷ []) ∷ []
declared ConstObjectValue = (word BraceOpen ∷ Repeated ConstObjectField ∷ word BraceClose ∷ []) ∷ []
declared ObjectField = (Token AnyName ∷ word Colon ∷ One Value ∷ []) ∷ []
declared ConstObjectField = (Token AnyName ∷ word Colon ∷ One ConstValue ∷ []) ∷ []
declared VariableDefinitions = (word ParenOpen ∷ One VariableDefinition ∷ Repeated VariableDefinition ∷ word ParenClose ∷ []) ∷ []
declared VariableDefinition = (One Variable ∷ word Colon ∷ One TypeReference ∷ Optional DefaultValue ∷ Optional ConstDirectives ∷ []) ∷ []
declared DefaultValue = (word Equals ∷ One ConstValue ∷ []) ∷ []
declared TypeReference =
    (One NamedType ∷ []) ∷
    (One ListType ∷ []) ∷
    (One NonNullType ∷ []) ∷ []
declared NamedType = (Token AnyName ∷ []) ∷ []
declared ListType = (word BracketOpen ∷ One TypeReference ∷ word BracketClose ∷ []) ∷ []
declared NonNullType = (One TypeCore ∷ word Bang ∷ []) ∷ []
declared Directives = (One Directive ∷ Repeated Directive ∷ []) ∷ []
declared ConstDirectives = (One ConstDirective ∷ Repeated ConstDirective ∷ []) ∷ []
declared Directive = (word At ∷ Token AnyName ∷ Optional Arguments ∷ []) ∷ []
declared ConstDirective = (word At ∷ Token AnyName ∷ Optional ConstArguments ∷ []) ∷ []
declared ConstArguments = (word ParenOpen ∷ One ConstArgument ∷ Repeated ConstArgument ∷ word ParenClose ∷ []) ∷ []
declared ConstArgument = (Token AnyName ∷ word Colon ∷ One ConstValue ∷ []) ∷ []
declared Description = (word StringLiteral ∷ []) ∷ []
declared SchemaDefinition = (Optional Description ∷ word SchemaWord ∷ Optional ConstDirectives ∷ One RootOperations ∷ []) ∷ []
declared RootOperationTypeDefinition = (One OperationType ∷ word Colon ∷ One NamedType ∷ []) ∷ []
declared ScalarTypeDefinition = (Optional Description ∷ word ScalarWord ∷ Token AnyName ∷ Optional ConstDirectives ∷ []) ∷ []
declared ObjectTypeDefinition = (Optional Description ∷ word TypeWord ∷ Token AnyName ∷ Optional ImplementsInterfaces ∷
    Optional ConstDirectives ∷ Eager FieldsDefinition ∷ []) ∷ []
declared InterfaceTypeDefinition = (Optional Description ∷ word InterfaceWord ∷ Token AnyName ∷ Optional ImplementsInterfaces ∷
    Optional ConstDirectives ∷ Eager FieldsDefinition ∷ []) ∷ []
declared ImplementsInterfaces = (word ImplementsWord ∷ Optional AmpersandSign ∷ One NamedType ∷ Repeated AmpersandType ∷ []) ∷ []
declared FieldsDefinition = (word BraceOpen ∷ One FieldDefinition ∷ Repeated FieldDefinition ∷ word BraceClose ∷ []) ∷ []
declared FieldDefinition = (Optional Description ∷ Token AnyName ∷ Optional ArgumentsDefinition ∷ word Colon ∷ One TypeReference ∷
    Optional ConstDirectives ∷ []) ∷ []
declared ArgumentsDefinition = (word ParenOpen ∷ One InputValueDefinition ∷ Repeated InputValueDefinition ∷ word ParenClose ∷ []) ∷ []
declared InputValueDefinition = (Optional Description ∷ Token AnyName ∷ word Colon ∷ One TypeReference ∷ Optional DefaultValue ∷
    Optional ConstDirectives ∷ []) ∷ []
declared UnionTypeDefinition = (Optional Description ∷ word UnionWord ∷ Token AnyName ∷ Optional ConstDirectives ∷
    Optional UnionMemberTypes ∷ []) ∷ []
declared UnionMemberTypes = (word Equals ∷ Optional BarSign ∷ One NamedType ∷ Repeated BarType ∷ []) ∷ []
declared EnumTypeDefinition = (Optional Description ∷ word EnumWord ∷ Token AnyName ∷ Optional ConstDirectives ∷
    Eager EnumValuesDefinition ∷ []) ∷ []
declared EnumValuesDefinition = (word BraceOpen ∷ One EnumValueDefinition ∷ Repeated EnumValueDefinition ∷ word BraceClose ∷ []) ∷ []
declared EnumValueDefinition = (Optional Description ∷ One EnumValue ∷ Optional ConstDirectives ∷ []) ∷ []
declared InputObjectTypeDefinition = (Optional Description ∷ word InputWord ∷ Token AnyName ∷ Optional ConstDirectives ∷
    Eager InputFieldsDefinition ∷ []) ∷ []
declared InputFieldsDefinition = (word BraceOpen ∷ One InputValueDefinition ∷ Repeated InputValueDefinition ∷ word BraceClose ∷ []) ∷ []
declared DirectiveDefinition = (Optional Description ∷ word DirectiveWord ∷ word At ∷ Token AnyName ∷ Optional ArgumentsDefinition ∷
    Optional RepeatableSign ∷ word OnWord ∷ Optional BarSign ∷ word LocationWord ∷ Repeated BarLocation ∷ []) ∷ []
declared Extension = (word ExtendWord ∷ One ExtendedDefinition ∷ []) ∷ []
declared FieldSet =
    (One SelectionSet ∷ []) ∷
    (One Selection ∷ Repeated Selection ∷ []) ∷ []
-- groups of symbols, which make no node
declared OperationName = (Token AnyName ∷ []) ∷ []
declared TypeCore =
    (One NamedType ∷ []) ∷
    (One ListType ∷ []) ∷ []
declared RootOperations = (word BraceOpen ∷ One RootOperationTypeDefinition ∷ Repeated RootOperationTypeDefinition ∷ word BraceClose ∷ []) ∷ []
declared AmpersandSign = (word Ampersand ∷ []) ∷ []
declared AmpersandType = (word Ampersand ∷ One NamedType ∷ []) ∷ []
declared BarSign = (word Bar ∷ []) ∷ []
declared BarType = (word Bar ∷ One NamedType ∷ []) ∷ []
declared BarLocation = (word Bar ∷ word LocationWord ∷ []) ∷ []
declared RepeatableSign = (word RepeatableWord ∷ []) ∷ []
declared ExtendedDefinition =
    (word SchemaWord ∷ One SchemaParts ∷ []) ∷
    (word ScalarWord ∷ Token AnyName ∷ One ConstDirectives ∷ []) ∷
    (word TypeWord ∷ Token AnyName ∷ One ObjectParts ∷ []) ∷
    (word InterfaceWord ∷ Token AnyName ∷ One ObjectParts ∷ []) ∷
    (word UnionWord ∷ Token AnyName ∷ One UnionParts ∷ []) ∷
    (word EnumWord ∷ Token AnyName ∷ One EnumParts ∷ []) ∷
    (word InputWord ∷ Token AnyName ∷ One InputParts ∷ []) ∷ []
declared SchemaParts =
    (One ConstDirectives ∷ Eager RootOperations ∷ []) ∷
    (One RootOperations ∷ []) ∷ []
declared ObjectParts =
    (One ImplementsInterfaces ∷ Optional ConstDirectives ∷ Eager FieldsDefinition ∷ []) ∷
    (One ConstDirectives ∷ Eager FieldsDefinition ∷ []) ∷
    (One FieldsDefinition ∷ []) ∷ []
declared UnionParts =
    (One ConstDirectives ∷ Optional UnionMemberTypes ∷ []) ∷
    (One UnionMemberTypes ∷ []) ∷ []
declared EnumParts =
    (One ConstDirectives ∷ Eager EnumValuesDefinition ∷ []) ∷
    (One EnumValuesDefinition ∷ []) ∷ []
declared InputParts =
    (One ConstDirectives ∷ Eager InputFieldsDefinition ∷ []) ∷
    (One InputFieldsDefinition ∷ []) ∷ []
-- groups of the factored grammar alone, which no rule here names
declared DescribedDefinition = []
declared AfterSpread = []
declared AliasTail = []
declared BangTail = []
