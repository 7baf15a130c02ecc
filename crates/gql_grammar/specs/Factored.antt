-- The same language, written so that the next word always decides.
--
-- Where the ways of a rule begin alike, what they share is read first, and `Wrap` makes the node of what the open node
-- holds by then.
use Rattle.std.specs.Prelude.{[], ◌∷◌}
use Rattle.gql_grammar.specs.declared.word.Word.TheVariants.{Bang, Spread, Colon, At, OnWord, SchemaWord, ScalarWord, TypeWord, InterfaceWord}
use Rattle.gql_grammar.specs.declared.word.Word.TheVariants.{UnionWord, EnumWord, InputWord, DirectiveWord, LocationWord}
use Rattle.gql_grammar.specs.declared.symbol.Terminal.TheVariants.{AnyName}
use Rattle.gql_grammar.specs.declared.symbol.Symbol.TheVariants.{Token, One, Optional, Repeated, Eager, Wrap}
use Rattle.gql_grammar.specs.declared.rule.Rule.TheVariants.{Definition, OperationDefinition, SelectionSet, Selection, Field, Arguments}
use Rattle.gql_grammar.specs.declared.rule.Rule.TheVariants.{FragmentDefinition, FragmentName, TypeCondition, TypeReference, Directives}
use Rattle.gql_grammar.specs.declared.rule.Rule.TheVariants.{ConstDirectives, Description, ImplementsInterfaces, FieldsDefinition}
use Rattle.gql_grammar.specs.declared.rule.Rule.TheVariants.{ArgumentsDefinition, UnionMemberTypes, EnumValuesDefinition, InputFieldsDefinition}
use Rattle.gql_grammar.specs.declared.rule.Rule.TheVariants.{Extension, TypeCore, RootOperations, BarSign, BarLocation, RepeatableSign}
use Rattle.gql_grammar.specs.declared.rule.Rule.TheVariants.{DescribedDefinition, AfterSpread, AliasTail, BangTail}
use Rattle.gql_grammar.specs.declared.syntax_kind.SyntaxKind.TheVariants as kind
use Rattle.gql_grammar.specs.Grammar.{word, Grammar, declared}

abbrev pub factored : Grammar
factored Definition =
    (One OperationDefinition ∷ []) ∷
    (One FragmentDefinition ∷ []) ∷
    (One Extension ∷ []) ∷
    (Optional Description ∷ One DescribedDefinition ∷ []) ∷ []
factored Selection =
    (One Field ∷ []) ∷
    (word Spread ∷ One AfterSpread ∷ []) ∷ []
factored Field = (Token AnyName ∷ Optional AliasTail ∷ Optional Arguments ∷ Optional Directives ∷ Optional SelectionSet ∷ []) ∷ []
factored TypeReference = (One TypeCore ∷ Optional BangTail ∷ []) ∷ []
factored DescribedDefinition =
    (word SchemaWord ∷ Optional ConstDirectives ∷ One RootOperations ∷ Wrap kind.SchemaDefinition ∷ []) ∷
    (word ScalarWord ∷ Token AnyName ∷ Optional ConstDirectives ∷ Wrap kind.ScalarTypeDefinition ∷ []) ∷
    (word TypeWord ∷ Token AnyName ∷ Optional ImplementsInterfaces ∷ Optional ConstDirectives ∷ Eager FieldsDefinition ∷
    Wrap kind.ObjectTypeDefinition ∷ []) ∷
    (word InterfaceWord ∷ Token AnyName ∷ Optional ImplementsInterfaces ∷ Optional ConstDirectives ∷ Eager FieldsDefinition ∷
    Wrap kind.InterfaceTypeDefinition ∷ []) ∷
    (word UnionWord ∷ Token AnyName ∷ Optional ConstDirectives ∷ Optional UnionMemberTypes ∷ Wrap kind.UnionTypeDefinition ∷ []) ∷
    (word EnumWord ∷ Token AnyName ∷ Optional ConstDirectives ∷ Eager EnumValuesDefinition ∷ Wrap kind.EnumTypeDefinition ∷ []) ∷
    (word InputWord ∷ Token AnyName ∷ Optional ConstDirectives ∷ Eager InputFieldsDefinition ∷ Wrap kind.InputObjectTypeDefinition ∷ []) ∷
    (word DirectiveWord ∷ word At ∷ Token AnyName ∷ Optional ArgumentsDefinition ∷ Optional RepeatableSign ∷ word OnWord ∷
    Optional BarSign ∷ word LocationWord ∷ Repeated BarLocation ∷ Wrap kind.DirectiveDefinition ∷ []) ∷ []
factored AfterSpread =
    (One FragmentName ∷ Optional Directives ∷ Wrap kind.FragmentSpread ∷ []) ∷
    (Optional TypeCondition ∷ Optional Directives ∷ One SelectionSet ∷ Wrap kind.InlineFragment ∷ []) ∷ []
factored AliasTail = (word Colon ∷ Wrap kind.Alias ∷ Token AnyName ∷ []) ∷ []
factored BangTail = (word Bang ∷ Wrap kind.NonNullType ∷ []) ∷ []
factored r = declared r
