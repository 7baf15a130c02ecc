-- Stacks of symbols at which the next word always decides.
use Rattle.std.specs.Prelude.{◌≡◌, ℕ, ◌+◌, ◌-◌, Bool, true, false, List, [], ◌∷◌}
use Rattle.gql_grammar.specs.declared.word.Word.{Word}
use Rattle.gql_grammar.specs.declared.word.Word.TheVariants.{Bang, Dollar, Ampersand, ParenOpen, ParenClose, Spread, Colon, Equals, At}
use Rattle.gql_grammar.specs.declared.word.Word.TheVariants.{BracketOpen, BracketClose, BraceOpen, Bar, BraceClose, IntLiteral, FloatLiteral}
use Rattle.gql_grammar.specs.declared.word.Word.TheVariants.{StringLiteral, OperationWord, FragmentWord, OnWord, BooleanWord, NullWord}
use Rattle.gql_grammar.specs.declared.word.Word.TheVariants.{SchemaWord, ScalarWord, TypeWord, InterfaceWord, UnionWord, EnumWord, InputWord}
use Rattle.gql_grammar.specs.declared.word.Word.TheVariants.{DirectiveWord, RepeatableWord, ExtendWord}
use Rattle.gql_grammar.specs.declared.symbol.Symbol.{Symbol}
use Rattle.gql_grammar.specs.declared.symbol.Symbol.TheVariants.{Token, One, Optional, Repeated, Eager, Wrap, Close}
use Rattle.gql_grammar.specs.declared.rule.Rule.{Rule}
use Rattle.gql_grammar.specs.declared.rule.Rule.TheVariants.{Document, Definition, OperationDefinition, OperationType, SelectionSet, Selection}
use Rattle.gql_grammar.specs.declared.rule.Rule.TheVariants.{Field, Alias, Arguments, Argument, FragmentSpread, InlineFragment}
use Rattle.gql_grammar.specs.declared.rule.Rule.TheVariants.{FragmentDefinition, FragmentName, TypeCondition, Value, ConstValue, BooleanValue}
use Rattle.gql_grammar.specs.declared.rule.Rule.TheVariants.{NullValue, EnumValue, Variable, ListValue, ConstListValue, ObjectValue}
use Rattle.gql_grammar.specs.declared.rule.Rule.TheVariants.{ConstObjectValue, ObjectField, ConstObjectField, VariableDefinitions}
use Rattle.gql_grammar.specs.declared.rule.Rule.TheVariants.{VariableDefinition, DefaultValue, TypeReference, NamedType, ListType, NonNullType}
use Rattle.gql_grammar.specs.declared.rule.Rule.TheVariants.{Directives, ConstDirectives, Directive, ConstDirective, ConstArguments}
use Rattle.gql_grammar.specs.declared.rule.Rule.TheVariants.{ConstArgument, Description, SchemaDefinition, RootOperationTypeDefinition}
use Rattle.gql_grammar.specs.declared.rule.Rule.TheVariants.{ScalarTypeDefinition, ObjectTypeDefinition, InterfaceTypeDefinition}
use Rattle.gql_grammar.specs.declared.rule.Rule.TheVariants.{ImplementsInterfaces, FieldsDefinition, FieldDefinition, ArgumentsDefinition}
use Rattle.gql_grammar.specs.declared.rule.Rule.TheVariants.{InputValueDefinition, UnionTypeDefinition, UnionMemberTypes, EnumTypeDefinition}
use Rattle.gql_grammar.specs.declared.rule.Rule.TheVariants.{EnumValuesDefinition, EnumValueDefinition, InputObjectTypeDefinition}
use Rattle.gql_grammar.specs.declared.rule.Rule.TheVariants.{InputFieldsDefinition, DirectiveDefinition, Extension, FieldSet, OperationName}
use Rattle.gql_grammar.specs.declared.rule.Rule.TheVariants.{TypeCore, RootOperations, AmpersandSign, AmpersandType, BarSign, BarType}
use Rattle.gql_grammar.specs.declared.rule.Rule.TheVariants.{BarLocation, RepeatableSign, ExtendedDefinition, SchemaParts, ObjectParts}
use Rattle.gql_grammar.specs.declared.rule.Rule.TheVariants.{UnionParts, EnumParts, InputParts, DescribedDefinition, AfterSpread, AliasTail}
use Rattle.gql_grammar.specs.declared.rule.Rule.TheVariants.{BangTail}
use Rattle.gql_grammar.specs.Word.{is_same, set, has, names}
use Rattle.gql_grammar.specs.Starts.{starts, leads}

-- the words that may stand behind the rule
abbrev pub follow : Rule → ℕ
follow Document = set ([])
follow Definition = set (BraceOpen ∷ StringLiteral ∷ OperationWord ∷ FragmentWord ∷ SchemaWord ∷ ScalarWord ∷ TypeWord ∷
    InterfaceWord ∷ UnionWord ∷ EnumWord ∷ InputWord ∷ DirectiveWord ∷ ExtendWord ∷ [])
follow OperationDefinition = set (BraceOpen ∷ StringLiteral ∷ OperationWord ∷ FragmentWord ∷ SchemaWord ∷ ScalarWord ∷ TypeWord ∷
    InterfaceWord ∷ UnionWord ∷ EnumWord ∷ InputWord ∷ DirectiveWord ∷ ExtendWord ∷ [])
follow OperationType = names + set (ParenOpen ∷ Colon ∷ At ∷ BraceOpen ∷ [])
follow SelectionSet = names + set (Spread ∷ BraceOpen ∷ BraceClose ∷ StringLiteral ∷ [])
follow Selection = names + set (Spread ∷ BraceClose ∷ [])
follow Field = names + set (Spread ∷ BraceClose ∷ [])
follow Alias = set ([])
follow Arguments = names + set (Spread ∷ At ∷ BraceOpen ∷ BraceClose ∷ [])
follow Argument = names + set (ParenClose ∷ [])
follow FragmentSpread = set ([])
follow InlineFragment = set ([])
follow FragmentDefinition = set (BraceOpen ∷ StringLiteral ∷ OperationWord ∷ FragmentWord ∷ SchemaWord ∷ ScalarWord ∷ TypeWord ∷
    InterfaceWord ∷ UnionWord ∷ EnumWord ∷ InputWord ∷ DirectiveWord ∷ ExtendWord ∷ [])
follow FragmentName = names + set (Spread ∷ At ∷ BraceClose ∷ [])
follow TypeCondition = set (At ∷ BraceOpen ∷ [])
follow Value = names + set (Dollar ∷ ParenClose ∷ BracketOpen ∷ BracketClose ∷ BraceOpen ∷ BraceClose ∷ IntLiteral ∷ FloatLiteral ∷
    StringLiteral ∷ [])
follow ConstValue = names + set (Dollar ∷ ParenClose ∷ At ∷ BracketOpen ∷ BracketClose ∷ BraceOpen ∷ BraceClose ∷ IntLiteral ∷
    FloatLiteral ∷ StringLiteral ∷ [])
follow BooleanValue = names + set (Dollar ∷ ParenClose ∷ At ∷ BracketOpen ∷ BracketClose ∷ BraceOpen ∷ BraceClose ∷ IntLiteral ∷
    FloatLiteral ∷ StringLiteral ∷ [])
follow NullValue = names + set (Dollar ∷ ParenClose ∷ At ∷ BracketOpen ∷ BracketClose ∷ BraceOpen ∷ BraceClose ∷ IntLiteral ∷
    FloatLiteral ∷ StringLiteral ∷ [])
follow EnumValue = names + set (Dollar ∷ ParenClose ∷ At ∷ BracketOpen ∷ BracketClose ∷ BraceOpen ∷ BraceClose ∷ IntLiteral ∷
    FloatLiteral ∷ StringLiteral ∷ [])
follow Variable = names + set (Dollar ∷ ParenClose ∷ Colon ∷ BracketOpen ∷ BracketClose ∷ BraceOpen ∷ BraceClose ∷ IntLiteral ∷
    FloatLiteral ∷ StringLiteral ∷ [])
follow ListValue = names + set (Dollar ∷ ParenClose ∷ BracketOpen ∷ BracketClose ∷ BraceOpen ∷ BraceClose ∷ IntLiteral ∷
    FloatLiteral ∷ StringLiteral ∷ [])
follow ConstListValue = names + set (Dollar ∷ ParenClose ∷ At ∷ BracketOpen ∷ BracketClose ∷ BraceOpen ∷ BraceClose ∷ IntLiteral ∷
    FloatLiteral ∷ StringLiteral ∷ [])
follow ObjectValue = names + set (Dollar ∷ ParenClose ∷ BracketOpen ∷ BracketClose ∷ BraceOpen ∷ BraceClose ∷ IntLiteral ∷
    FloatLiteral ∷ StringLiteral ∷ [])
follow ConstObjectValue = names + set (Dollar ∷ ParenClose ∷ At ∷ BracketOpen ∷ BracketClose ∷ BraceOpen ∷ BraceClose ∷ IntLiteral ∷
    FloatLiteral ∷ StringLiteral ∷ [])
follow ObjectField = names + set (BraceClose ∷ [])
follow ConstObjectField = names + set (BraceClose ∷ [])
follow VariableDefinitions = set (At ∷ BraceOpen ∷ [])
follow VariableDefinition = set (Dollar ∷ ParenClose ∷ [])
follow DefaultValue = names + set (Dollar ∷ ParenClose ∷ At ∷ BraceClose ∷ StringLiteral ∷ [])
follow TypeReference = names + set (Dollar ∷ ParenClose ∷ Equals ∷ At ∷ BracketClose ∷ BraceClose ∷ StringLiteral ∷ [])
follow NamedType = names + set (Bang ∷ Dollar ∷ Ampersand ∷ ParenClose ∷ Equals ∷ At ∷ BracketClose ∷ BraceOpen ∷ Bar ∷
    BraceClose ∷ StringLiteral ∷ [])
follow ListType = names + set (Bang ∷ Dollar ∷ ParenClose ∷ Equals ∷ At ∷ BracketClose ∷ BraceClose ∷ StringLiteral ∷ [])
follow NonNullType = set ([])
follow Directives = names + set (Spread ∷ BraceOpen ∷ BraceClose ∷ [])
follow ConstDirectives = names + set (Dollar ∷ ParenClose ∷ Equals ∷ BraceOpen ∷ BraceClose ∷ StringLiteral ∷ [])
follow Directive = names + set (Spread ∷ At ∷ BraceOpen ∷ BraceClose ∷ [])
follow ConstDirective = names + set (Dollar ∷ ParenClose ∷ Equals ∷ At ∷ BraceOpen ∷ BraceClose ∷ StringLiteral ∷ [])
follow ConstArguments = names + set (Dollar ∷ ParenClose ∷ Equals ∷ At ∷ BraceOpen ∷ BraceClose ∷ StringLiteral ∷ [])
follow ConstArgument = names + set (ParenClose ∷ [])
follow Description = names
follow SchemaDefinition = set ([])
follow RootOperationTypeDefinition = set (BraceClose ∷ OperationWord ∷ [])
follow ScalarTypeDefinition = set ([])
follow ObjectTypeDefinition = set ([])
follow InterfaceTypeDefinition = set ([])
follow ImplementsInterfaces = set (At ∷ BraceOpen ∷ StringLiteral ∷ OperationWord ∷ FragmentWord ∷ SchemaWord ∷ ScalarWord ∷
    TypeWord ∷ InterfaceWord ∷ UnionWord ∷ EnumWord ∷ InputWord ∷ DirectiveWord ∷ ExtendWord ∷ [])
follow FieldsDefinition = set (BraceOpen ∷ StringLiteral ∷ OperationWord ∷ FragmentWord ∷ SchemaWord ∷ ScalarWord ∷ TypeWord ∷
    InterfaceWord ∷ UnionWord ∷ EnumWord ∷ InputWord ∷ DirectiveWord ∷ ExtendWord ∷ [])
follow FieldDefinition = names + set (BraceClose ∷ StringLiteral ∷ [])
follow ArgumentsDefinition = set (Colon ∷ OnWord ∷ RepeatableWord ∷ [])
follow InputValueDefinition = names + set (ParenClose ∷ BraceClose ∷ StringLiteral ∷ [])
follow UnionTypeDefinition = set ([])
follow UnionMemberTypes = set (BraceOpen ∷ StringLiteral ∷ OperationWord ∷ FragmentWord ∷ SchemaWord ∷ ScalarWord ∷ TypeWord ∷
    InterfaceWord ∷ UnionWord ∷ EnumWord ∷ InputWord ∷ DirectiveWord ∷ ExtendWord ∷ [])
follow EnumTypeDefinition = set ([])
follow EnumValuesDefinition = set (BraceOpen ∷ StringLiteral ∷ OperationWord ∷ FragmentWord ∷ SchemaWord ∷ ScalarWord ∷ TypeWord ∷
    InterfaceWord ∷ UnionWord ∷ EnumWord ∷ InputWord ∷ DirectiveWord ∷ ExtendWord ∷ [])
follow EnumValueDefinition = names - set (BooleanWord ∷ NullWord ∷ []) + set (BraceClose ∷ StringLiteral ∷ [])
follow InputObjectTypeDefinition = set ([])
follow InputFieldsDefinition = set (BraceOpen ∷ StringLiteral ∷ OperationWord ∷ FragmentWord ∷ SchemaWord ∷ ScalarWord ∷ TypeWord ∷
    InterfaceWord ∷ UnionWord ∷ EnumWord ∷ InputWord ∷ DirectiveWord ∷ ExtendWord ∷ [])
follow DirectiveDefinition = set ([])
follow Extension = set (BraceOpen ∷ StringLiteral ∷ OperationWord ∷ FragmentWord ∷ SchemaWord ∷ ScalarWord ∷ TypeWord ∷
    InterfaceWord ∷ UnionWord ∷ EnumWord ∷ InputWord ∷ DirectiveWord ∷ ExtendWord ∷ [])
follow FieldSet = set ([])
follow OperationName = set (ParenOpen ∷ At ∷ BraceOpen ∷ [])
follow TypeCore = names + set (Bang ∷ Dollar ∷ ParenClose ∷ Equals ∷ At ∷ BracketClose ∷ BraceClose ∷ StringLiteral ∷ [])
follow RootOperations = set (BraceOpen ∷ StringLiteral ∷ OperationWord ∷ FragmentWord ∷ SchemaWord ∷ ScalarWord ∷ TypeWord ∷
    InterfaceWord ∷ UnionWord ∷ EnumWord ∷ InputWord ∷ DirectiveWord ∷ ExtendWord ∷ [])
follow AmpersandSign = names
follow AmpersandType = set (Ampersand ∷ At ∷ BraceOpen ∷ StringLiteral ∷ OperationWord ∷ FragmentWord ∷ SchemaWord ∷ ScalarWord ∷
    TypeWord ∷ InterfaceWord ∷ UnionWord ∷ EnumWord ∷ InputWord ∷ DirectiveWord ∷ ExtendWord ∷ [])
follow BarSign = names
follow BarType = set (BraceOpen ∷ Bar ∷ StringLiteral ∷ OperationWord ∷ FragmentWord ∷ SchemaWord ∷ ScalarWord ∷ TypeWord ∷
    InterfaceWord ∷ UnionWord ∷ EnumWord ∷ InputWord ∷ DirectiveWord ∷ ExtendWord ∷ [])
follow BarLocation = set (BraceOpen ∷ Bar ∷ StringLiteral ∷ OperationWord ∷ FragmentWord ∷ SchemaWord ∷ ScalarWord ∷ TypeWord ∷
    InterfaceWord ∷ UnionWord ∷ EnumWord ∷ InputWord ∷ DirectiveWord ∷ ExtendWord ∷ [])
follow RepeatableSign = set (OnWord ∷ [])
follow ExtendedDefinition = set (BraceOpen ∷ StringLiteral ∷ OperationWord ∷ FragmentWord ∷ SchemaWord ∷ ScalarWord ∷ TypeWord ∷
    InterfaceWord ∷ UnionWord ∷ EnumWord ∷ InputWord ∷ DirectiveWord ∷ ExtendWord ∷ [])
follow SchemaParts = set (BraceOpen ∷ StringLiteral ∷ OperationWord ∷ FragmentWord ∷ SchemaWord ∷ ScalarWord ∷ TypeWord ∷
    InterfaceWord ∷ UnionWord ∷ EnumWord ∷ InputWord ∷ DirectiveWord ∷ ExtendWord ∷ [])
follow ObjectParts = set (BraceOpen ∷ StringLiteral ∷ OperationWord ∷ FragmentWord ∷ SchemaWord ∷ ScalarWord ∷ TypeWord ∷
    InterfaceWord ∷ UnionWord ∷ EnumWord ∷ InputWord ∷ DirectiveWord ∷ ExtendWord ∷ [])
follow UnionParts = set (BraceOpen ∷ StringLiteral ∷ OperationWord ∷ FragmentWord ∷ SchemaWord ∷ ScalarWord ∷ TypeWord ∷
    InterfaceWord ∷ UnionWord ∷ EnumWord ∷ InputWord ∷ DirectiveWord ∷ ExtendWord ∷ [])
follow EnumParts = set (BraceOpen ∷ StringLiteral ∷ OperationWord ∷ FragmentWord ∷ SchemaWord ∷ ScalarWord ∷ TypeWord ∷
    InterfaceWord ∷ UnionWord ∷ EnumWord ∷ InputWord ∷ DirectiveWord ∷ ExtendWord ∷ [])
follow InputParts = set (BraceOpen ∷ StringLiteral ∷ OperationWord ∷ FragmentWord ∷ SchemaWord ∷ ScalarWord ∷ TypeWord ∷
    InterfaceWord ∷ UnionWord ∷ EnumWord ∷ InputWord ∷ DirectiveWord ∷ ExtendWord ∷ [])
follow DescribedDefinition = set (BraceOpen ∷ StringLiteral ∷ OperationWord ∷ FragmentWord ∷ SchemaWord ∷ ScalarWord ∷ TypeWord ∷
    InterfaceWord ∷ UnionWord ∷ EnumWord ∷ InputWord ∷ DirectiveWord ∷ ExtendWord ∷ [])
follow AfterSpread = names + set (Spread ∷ BraceClose ∷ [])
follow AliasTail = names + set (ParenOpen ∷ Spread ∷ At ∷ BraceOpen ∷ BraceClose ∷ [])
follow BangTail = names + set (Dollar ∷ ParenClose ∷ Equals ∷ At ∷ BracketClose ∷ BraceClose ∷ StringLiteral ∷ [])

-- no word that the rule can begin with is one that the symbols behind it can begin with
abbrev pub IsApart : (Word → Bool) → Rule → List Symbol → Type 0
IsApart behind r ss = (w : Word) → starts r w ≡ true → leads behind ss w ≡ false

-- each word that the symbols can begin with may stand behind the rule
abbrev pub MayFollow : (Word → Bool) → Rule → List Symbol → Type 0
MayFollow behind r ss = (w : Word) → leads behind ss w ≡ true → has (follow r) w ≡ true

-- the rule begins with `{`, and with nothing else
abbrev pub BeginsWithBrace : Rule → Type 0
BeginsWithBrace r = (w : Word) → starts r w ≡ is_same BraceOpen w

-- at each symbol the next word decides
abbrev pub IsDecided : (Word → Bool) → List Symbol → Type 0
IsDecided behind [] = Unit {0}
IsDecided behind (Token t ∷ ss) = IsDecided behind ss
IsDecided behind (One r ∷ ss) = MayFollow behind r ss × IsDecided behind ss
IsDecided behind (Optional r ∷ ss) = IsApart behind r ss × (MayFollow behind r ss × IsDecided behind ss)
IsDecided behind (Repeated r ∷ ss) = IsApart behind r ss × (MayFollow behind r (Repeated r ∷ ss) × IsDecided behind ss)
IsDecided behind (Eager r ∷ ss) = BeginsWithBrace r × (MayFollow behind r ss × IsDecided behind ss)
IsDecided behind (Wrap k ∷ ss) = IsDecided behind ss
IsDecided behind (Close k ∷ ss) = IsDecided behind ss
