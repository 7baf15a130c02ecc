-- The words that a rule can begin with, and the way to write it that a word chooses.
use Rattle.std.specs.Prelude.{ℕ, ◌+◌, ◌-◌, Bool, false, ◌||◌, if◌then◌else◌, List, [], ◌∷◌, Option, Some, None}
use Rattle.gql_grammar.specs.declared.word.Word.{Word}
use Rattle.gql_grammar.specs.declared.word.Word.TheVariants.{Bang, Dollar, Ampersand, ParenOpen, Spread, Colon, Equals, At, BracketOpen}
use Rattle.gql_grammar.specs.declared.word.Word.TheVariants.{BraceOpen, Bar, IntLiteral, FloatLiteral, StringLiteral, OperationWord, FragmentWord}
use Rattle.gql_grammar.specs.declared.word.Word.TheVariants.{OnWord, BooleanWord, NullWord, SchemaWord, ScalarWord, TypeWord, InterfaceWord}
use Rattle.gql_grammar.specs.declared.word.Word.TheVariants.{ImplementsWord, UnionWord, EnumWord, InputWord, DirectiveWord, RepeatableWord}
use Rattle.gql_grammar.specs.declared.word.Word.TheVariants.{ExtendWord}
use Rattle.gql_grammar.specs.declared.symbol.Symbol.{Symbol}
use Rattle.gql_grammar.specs.declared.symbol.Symbol.TheVariants.{Token, One, Optional, Repeated, Eager, Wrap, Close}
use Rattle.gql_grammar.specs.declared.rule.Rule.{Rule}
use Rattle.gql_grammar.specs.declared.rule.Rule.TheVariants.{Document, Definition, OperationDefinition, OperationType, SelectionSet, Selection}
use Rattle.gql_grammar.specs.declared.rule.Rule.TheVariants.{Field, Alias, Arguments, Argument, FragmentSpread, InlineFragment}
use Rattle.gql_grammar.specs.declared.rule.Rule.TheVariants.{FragmentDefinition, FragmentName, TypeCondition, Value, ConstValue, BooleanValue}
use Rattle.gql_grammar.specs.declared.rule.Rule.TheVariants.{NullValue, EnumValue, Variable, ListValue, ConstListValue, ObjectValue}
use Rattle.gql_grammar.specs.declared.rule.Rule.TheVariants.{ConstObjectValue, ObjectField, ConstObjectField, VariableDefinitions}
use Rattle.gql_grammar.specs.declared.rule.Rule.TheVariants.{VariableDefinition, DefaultValue, TypeReference, NamedType, ListType, NonNullType}
use Rattle.gql_grammar.specs.declared.rule.Rule.TheVariants.{Directives, ConstDirectives, Directive, ConstDirective, ConstArguments}
use Rattle.gql_grammar.specs.declared.rule.Rule.TheVariants.{ConstArgument, Description, SchemaDefinition, RootOperationTypeDefinition}
use Rattle.gql_grammar.specs.declared.rule.Rule.TheVariants.{ScalarTypeDefinition, ObjectTypeDefinition, InterfaceTypeDefinition}
use Rattle.gql_grammar.specs.declared.rule.Rule.TheVariants.{ImplementsInterfaces, FieldsDefinition, FieldDefinition, ArgumentsDefinition}
use Rattle.gql_grammar.specs.declared.rule.Rule.TheVariants.{InputValueDefinition, UnionTypeDefinition, UnionMemberTypes, EnumTypeDefinition}
use Rattle.gql_grammar.specs.declared.rule.Rule.TheVariants.{EnumValuesDefinition, EnumValueDefinition, InputObjectTypeDefinition}
use Rattle.gql_grammar.specs.declared.rule.Rule.TheVariants.{InputFieldsDefinition, DirectiveDefinition, Extension, FieldSet, OperationName}
use Rattle.gql_grammar.specs.declared.rule.Rule.TheVariants.{TypeCore, RootOperations, AmpersandSign, AmpersandType, BarSign, BarType}
use Rattle.gql_grammar.specs.declared.rule.Rule.TheVariants.{BarLocation, RepeatableSign, ExtendedDefinition, SchemaParts, ObjectParts}
use Rattle.gql_grammar.specs.declared.rule.Rule.TheVariants.{UnionParts, EnumParts, InputParts, DescribedDefinition, AfterSpread, AliasTail}
use Rattle.gql_grammar.specs.declared.rule.Rule.TheVariants.{BangTail}
use Rattle.gql_grammar.specs.Word.{takes, set, has, names}
use Rattle.gql_grammar.specs.Factored.{factored}

-- the words that the rule can begin with
abbrev pub first : Rule → ℕ
first Document = set (BraceOpen ∷ StringLiteral ∷ OperationWord ∷ FragmentWord ∷ SchemaWord ∷ ScalarWord ∷ TypeWord ∷ InterfaceWord ∷
    UnionWord ∷ EnumWord ∷ InputWord ∷ DirectiveWord ∷ ExtendWord ∷ [])
first Definition = set (BraceOpen ∷ StringLiteral ∷ OperationWord ∷ FragmentWord ∷ SchemaWord ∷ ScalarWord ∷ TypeWord ∷
    InterfaceWord ∷ UnionWord ∷ EnumWord ∷ InputWord ∷ DirectiveWord ∷ ExtendWord ∷ [])
first OperationDefinition = set (BraceOpen ∷ OperationWord ∷ [])
first OperationType = set (OperationWord ∷ [])
first SelectionSet = set (BraceOpen ∷ [])
first Selection = names + set (Spread ∷ [])
first Field = names
first Alias = names
first Arguments = set (ParenOpen ∷ [])
first Argument = names
first FragmentSpread = set (Spread ∷ [])
first InlineFragment = set (Spread ∷ [])
first FragmentDefinition = set (FragmentWord ∷ [])
first FragmentName = names - set (OnWord ∷ [])
first TypeCondition = set (OnWord ∷ [])
first Value = names + set (Dollar ∷ BracketOpen ∷ BraceOpen ∷ IntLiteral ∷ FloatLiteral ∷ StringLiteral ∷ [])
first ConstValue = names + set (BracketOpen ∷ BraceOpen ∷ IntLiteral ∷ FloatLiteral ∷ StringLiteral ∷ [])
first BooleanValue = set (BooleanWord ∷ [])
first NullValue = set (NullWord ∷ [])
first EnumValue = names - set (BooleanWord ∷ NullWord ∷ [])
first Variable = set (Dollar ∷ [])
first ListValue = set (BracketOpen ∷ [])
first ConstListValue = set (BracketOpen ∷ [])
first ObjectValue = set (BraceOpen ∷ [])
first ConstObjectValue = set (BraceOpen ∷ [])
first ObjectField = names
first ConstObjectField = names
first VariableDefinitions = set (ParenOpen ∷ [])
first VariableDefinition = set (Dollar ∷ [])
first DefaultValue = set (Equals ∷ [])
first TypeReference = names + set (BracketOpen ∷ [])
first NamedType = names
first ListType = set (BracketOpen ∷ [])
first NonNullType = names + set (BracketOpen ∷ [])
first Directives = set (At ∷ [])
first ConstDirectives = set (At ∷ [])
first Directive = set (At ∷ [])
first ConstDirective = set (At ∷ [])
first ConstArguments = set (ParenOpen ∷ [])
first ConstArgument = names
first Description = set (StringLiteral ∷ [])
first SchemaDefinition = set (StringLiteral ∷ SchemaWord ∷ [])
first RootOperationTypeDefinition = set (OperationWord ∷ [])
first ScalarTypeDefinition = set (StringLiteral ∷ ScalarWord ∷ [])
first ObjectTypeDefinition = set (StringLiteral ∷ TypeWord ∷ [])
first InterfaceTypeDefinition = set (StringLiteral ∷ InterfaceWord ∷ [])
first ImplementsInterfaces = set (ImplementsWord ∷ [])
first FieldsDefinition = set (BraceOpen ∷ [])
first FieldDefinition = names + set (StringLiteral ∷ [])
first ArgumentsDefinition = set (ParenOpen ∷ [])
first InputValueDefinition = names + set (StringLiteral ∷ [])
first UnionTypeDefinition = set (StringLiteral ∷ UnionWord ∷ [])
first UnionMemberTypes = set (Equals ∷ [])
first EnumTypeDefinition = set (StringLiteral ∷ EnumWord ∷ [])
first EnumValuesDefinition = set (BraceOpen ∷ [])
first EnumValueDefinition = names - set (BooleanWord ∷ NullWord ∷ []) + set (StringLiteral ∷ [])
first InputObjectTypeDefinition = set (StringLiteral ∷ InputWord ∷ [])
first InputFieldsDefinition = set (BraceOpen ∷ [])
first DirectiveDefinition = set (StringLiteral ∷ DirectiveWord ∷ [])
first Extension = set (ExtendWord ∷ [])
first FieldSet = names + set (Spread ∷ BraceOpen ∷ [])
first OperationName = names
first TypeCore = names + set (BracketOpen ∷ [])
first RootOperations = set (BraceOpen ∷ [])
first AmpersandSign = set (Ampersand ∷ [])
first AmpersandType = set (Ampersand ∷ [])
first BarSign = set (Bar ∷ [])
first BarType = set (Bar ∷ [])
first BarLocation = set (Bar ∷ [])
first RepeatableSign = set (RepeatableWord ∷ [])
first ExtendedDefinition = set (SchemaWord ∷ ScalarWord ∷ TypeWord ∷ InterfaceWord ∷ UnionWord ∷ EnumWord ∷ InputWord ∷ [])
first SchemaParts = set (At ∷ BraceOpen ∷ [])
first ObjectParts = set (At ∷ BraceOpen ∷ ImplementsWord ∷ [])
first UnionParts = set (Equals ∷ At ∷ [])
first EnumParts = set (At ∷ BraceOpen ∷ [])
first InputParts = set (At ∷ BraceOpen ∷ [])
first DescribedDefinition = set (SchemaWord ∷ ScalarWord ∷ TypeWord ∷ InterfaceWord ∷ UnionWord ∷ EnumWord ∷ InputWord ∷ DirectiveWord ∷ [])
first AfterSpread = names + set (At ∷ BraceOpen ∷ [])
first AliasTail = set (Colon ∷ [])
first BangTail = set (Bang ∷ [])

abbrev pub starts : Rule → Word → Bool
starts r w = has (first r) w

-- the symbols can begin with the word, where what stands behind them can begin with the words of `behind`
abbrev pub leads : (Word → Bool) → List Symbol → Word → Bool
leads behind [] w = behind w
leads behind (Token t ∷ ss) w = takes t w
leads behind (One r ∷ ss) w = starts r w
leads behind (Optional r ∷ ss) w = starts r w || leads behind ss w
leads behind (Repeated r ∷ ss) w = starts r w || leads behind ss w
leads behind (Eager r ∷ ss) w = starts r w || leads behind ss w
leads behind (Wrap k ∷ ss) w = leads behind ss w
leads behind (Close k ∷ ss) w = leads behind ss w

-- no word
abbrev pub nowhere : Word → Bool
nowhere w = false

-- the symbols can begin with the word, with nothing behind them
abbrev pub begins : List Symbol → Word → Bool
begins ss w = leads nowhere ss w

-- the first of the ways that can begin with the word, and the last where none before it can
abbrev pub chosen : List (List Symbol) → Word → List Symbol
chosen [] w = []
chosen (way ∷ []) w = way
chosen (way ∷ next ∷ ways) w = if begins way w then way else chosen (next ∷ ways) w

abbrev pub chosen_way : Rule → Word → List Symbol
chosen_way r w = chosen (factored r) w

-- the symbols that the rule is written with where it begins with the word
abbrev pub way : Rule → Word → Option (List Symbol)
way r w = if starts r w then Some (chosen_way r w) else None
