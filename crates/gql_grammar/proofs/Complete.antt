-- What the declared grammar makes of words, the factored one makes of them.
use Rattle.std.proofs.Common.{◌≡◌, List, [], ◌∷◌, None, refl, sym, subst}
use Rattle.gql_grammar.specs.declared.word.Word.{Word}
use Rattle.gql_grammar.specs.declared.word.Word.TheVariants.{Spread, Colon, Bang, At, OnWord, SchemaWord, ScalarWord, TypeWord, InterfaceWord, UnionWord, EnumWord, InputWord, DirectiveWord, LocationWord}
use Rattle.gql_grammar.specs.declared.symbol.Symbol.{Symbol}
use Rattle.gql_grammar.specs.declared.symbol.Symbol.TheVariants.{Token, One, Optional, Repeated, Eager, Wrap}
use Rattle.gql_grammar.specs.declared.symbol.Terminal.TheVariants.{AnyName}
use Rattle.gql_grammar.specs.declared.rule.Rule.{Rule}
use Rattle.gql_grammar.specs.declared.rule.Rule.TheVariants.{Definition, SelectionSet, Selection, Field, Alias, Arguments, FragmentSpread, InlineFragment, FragmentName, TypeCondition, TypeReference, NamedType, ListType, NonNullType, Directives, ConstDirectives, Description, SchemaDefinition, ScalarTypeDefinition, ObjectTypeDefinition, InterfaceTypeDefinition, ImplementsInterfaces, FieldsDefinition, ArgumentsDefinition, UnionTypeDefinition, UnionMemberTypes, EnumTypeDefinition, EnumValuesDefinition, InputObjectTypeDefinition, InputFieldsDefinition, DirectiveDefinition, TypeCore, RootOperations, BarSign, BarLocation, RepeatableSign, DescribedDefinition, AfterSpread, AliasTail, BangTail}
use Rattle.gql_grammar.specs.declared.syntax_kind.SyntaxKind.TheVariants as kind
use Rattle.gql_grammar.specs.Grammar.{word, declared}
use Rattle.gql_grammar.specs.Factored.{factored}
use Rattle.gql_grammar.specs.Rule.{kind_of}
use Rattle.gql_grammar.specs.Row.{Row, nothing, node}
use Rattle.gql_grammar.specs.Reads.{Reads, done, token, tree, group, skip, take, stop, again, leave, enter, wrap, IsOneOf, here, there}
use Rattle.gql_grammar.proofs.Ways.{none_of}
use Rattle.gql_grammar.proofs.Appended.{Reads-append}
use Rattle.gql_grammar.proofs.Tails.{way_of_tree, only_one, unfold_tail}

-- a factored way to write the rule, and what it reads
abbrev pub Refactored : Rule → List Word → Row → List Word → Type 0
Refactored r ws y vs = (a : List Symbol) × (IsOneOf a (factored r) × Reads factored a nothing ws y vs)

abbrev pub Behind : List Symbol
Behind = Optional Arguments ∷ Optional Directives ∷ Optional SelectionSet ∷ []

pub alias : {inner y : Row} {ws us vs : List Word}
    → Reads factored (Token AnyName ∷ word Colon ∷ []) nothing ws inner us
    → Reads factored (Token AnyName ∷ Behind) (node kind.Alias inner nothing) us y vs
    → Reads factored (Token AnyName ∷ Optional AliasTail ∷ Behind) nothing ws y vs
alias (token t w h (token t2 c hc done)) (token t3 v hv e) =
    token t w h (take AliasTail (group AliasTail (word Colon ∷ Wrap kind.Alias ∷ Token AnyName ∷ []) refl here
    (token t2 c hc (wrap kind.Alias (token t3 v hv done))) done) e)

pub field : {y : Row} {ws vs : List Word} → Reads factored (Optional Alias ∷ Token AnyName ∷ Behind) nothing ws y vs → Refactored Field ws y vs
field (skip r (token t w h d)) = (_, (here, token t w h (skip AliasTail d)))
field (take {y = y} {ws = ws} {us = us} {vs = vs} r d e) =
    let (a, inner, found) = way_of_tree {k = kind.Alias} refl d in
    let named = subst (λ b. Reads factored b nothing ws inner us) (only_one found.0) found.1.0 in
    let rest = subst (λ z. Reads factored (Token AnyName ∷ Behind) z us y vs) (sym found.1.1) e in
    (_, (here, alias named rest))

-- a declared way, read by the factored grammar, is one of its own
pub refactored : (r : Rule) {a : List Symbol} {y : Row} {ws vs : List Word} → IsOneOf a (declared r) → Reads factored a nothing ws y vs → Refactored r ws y vs
refactored Definition here d = (_, (here, d))
refactored Definition (there here) d = (_, ((there here), d))
refactored Definition (there (there here)) d =
    let (x, us, both) = unfold_tail SchemaDefinition (Optional Description ∷ []) (word SchemaWord ∷ Optional ConstDirectives ∷ One RootOperations ∷ []) refl refl d in
    (_, ((there (there (there here))), Reads-append both.0 (group DescribedDefinition (word SchemaWord ∷ Optional ConstDirectives ∷ One RootOperations ∷ Wrap kind.SchemaDefinition ∷ []) refl here both.1 done)))
refactored Definition (there (there (there here))) d =
    let (x, us, both) = unfold_tail DirectiveDefinition (Optional Description ∷ []) (word DirectiveWord ∷ word At ∷ Token AnyName ∷ Optional ArgumentsDefinition ∷ Optional RepeatableSign ∷ word OnWord ∷ Optional BarSign ∷ word LocationWord ∷ Repeated BarLocation ∷ []) refl refl d in
    (_, ((there (there (there here))), Reads-append both.0 (group DescribedDefinition (word DirectiveWord ∷ word At ∷ Token AnyName ∷ Optional ArgumentsDefinition ∷ Optional RepeatableSign ∷ word OnWord ∷ Optional BarSign ∷ word LocationWord ∷ Repeated BarLocation ∷ Wrap kind.DirectiveDefinition ∷ []) refl (there (there (there (there (there (there (there here))))))) both.1 done)))
refactored Definition (there (there (there (there here)))) d =
    let (x, us, both) = unfold_tail ScalarTypeDefinition (Optional Description ∷ []) (word ScalarWord ∷ Token AnyName ∷ Optional ConstDirectives ∷ []) refl refl d in
    (_, ((there (there (there here))), Reads-append both.0 (group DescribedDefinition (word ScalarWord ∷ Token AnyName ∷ Optional ConstDirectives ∷ Wrap kind.ScalarTypeDefinition ∷ []) refl (there here) both.1 done)))
refactored Definition (there (there (there (there (there here))))) d =
    let (x, us, both) = unfold_tail ObjectTypeDefinition (Optional Description ∷ []) (word TypeWord ∷ Token AnyName ∷ Optional ImplementsInterfaces ∷ Optional ConstDirectives ∷ Eager FieldsDefinition ∷ []) refl refl d in
    (_, ((there (there (there here))), Reads-append both.0 (group DescribedDefinition (word TypeWord ∷ Token AnyName ∷ Optional ImplementsInterfaces ∷ Optional ConstDirectives ∷ Eager FieldsDefinition ∷ Wrap kind.ObjectTypeDefinition ∷ []) refl (there (there here)) both.1 done)))
refactored Definition (there (there (there (there (there (there here)))))) d =
    let (x, us, both) = unfold_tail InterfaceTypeDefinition (Optional Description ∷ []) (word InterfaceWord ∷ Token AnyName ∷ Optional ImplementsInterfaces ∷ Optional ConstDirectives ∷ Eager FieldsDefinition ∷ []) refl refl d in
    (_, ((there (there (there here))), Reads-append both.0 (group DescribedDefinition (word InterfaceWord ∷ Token AnyName ∷ Optional ImplementsInterfaces ∷ Optional ConstDirectives ∷ Eager FieldsDefinition ∷ Wrap kind.InterfaceTypeDefinition ∷ []) refl (there (there (there here))) both.1 done)))
refactored Definition (there (there (there (there (there (there (there here))))))) d =
    let (x, us, both) = unfold_tail UnionTypeDefinition (Optional Description ∷ []) (word UnionWord ∷ Token AnyName ∷ Optional ConstDirectives ∷ Optional UnionMemberTypes ∷ []) refl refl d in
    (_, ((there (there (there here))), Reads-append both.0 (group DescribedDefinition (word UnionWord ∷ Token AnyName ∷ Optional ConstDirectives ∷ Optional UnionMemberTypes ∷ Wrap kind.UnionTypeDefinition ∷ []) refl (there (there (there (there here)))) both.1 done)))
refactored Definition (there (there (there (there (there (there (there (there here)))))))) d =
    let (x, us, both) = unfold_tail EnumTypeDefinition (Optional Description ∷ []) (word EnumWord ∷ Token AnyName ∷ Optional ConstDirectives ∷ Eager EnumValuesDefinition ∷ []) refl refl d in
    (_, ((there (there (there here))), Reads-append both.0 (group DescribedDefinition (word EnumWord ∷ Token AnyName ∷ Optional ConstDirectives ∷ Eager EnumValuesDefinition ∷ Wrap kind.EnumTypeDefinition ∷ []) refl (there (there (there (there (there here))))) both.1 done)))
refactored Definition (there (there (there (there (there (there (there (there (there here))))))))) d =
    let (x, us, both) = unfold_tail InputObjectTypeDefinition (Optional Description ∷ []) (word InputWord ∷ Token AnyName ∷ Optional ConstDirectives ∷ Eager InputFieldsDefinition ∷ []) refl refl d in
    (_, ((there (there (there here))), Reads-append both.0 (group DescribedDefinition (word InputWord ∷ Token AnyName ∷ Optional ConstDirectives ∷ Eager InputFieldsDefinition ∷ Wrap kind.InputObjectTypeDefinition ∷ []) refl (there (there (there (there (there (there here)))))) both.1 done)))
refactored Definition (there (there (there (there (there (there (there (there (there (there here)))))))))) d = (_, ((there (there here)), d))
refactored Definition (there (there (there (there (there (there (there (there (there (there (there m))))))))))) d = none_of m
refactored Selection here d = (_, (here, d))
refactored Selection (there here) d =
    let (x, us, both) = unfold_tail FragmentSpread (word Spread ∷ []) (One FragmentName ∷ Optional Directives ∷ []) refl refl d in
    (_, (there here, Reads-append both.0 (group AfterSpread (One FragmentName ∷ Optional Directives ∷ Wrap kind.FragmentSpread ∷ []) refl here both.1 done)))
refactored Selection (there (there here)) d =
    let (x, us, both) = unfold_tail InlineFragment (word Spread ∷ []) (Optional TypeCondition ∷ Optional Directives ∷ One SelectionSet ∷ []) refl refl d in
    (_, (there here, Reads-append both.0 (group AfterSpread (Optional TypeCondition ∷ Optional Directives ∷ One SelectionSet ∷ Wrap kind.InlineFragment ∷ []) refl (there here) both.1 done)))
refactored Selection (there (there (there m))) d = none_of m
refactored Field here d = field d
refactored Field (there m) d = none_of m
refactored TypeReference here d = (_, (here, group TypeCore (One NamedType ∷ []) refl here d (skip BangTail done)))
refactored TypeReference (there here) d = (_, (here, group TypeCore (One ListType ∷ []) refl (there here) d (skip BangTail done)))
refactored TypeReference (there (there here)) d =
    let (x, us, both) = unfold_tail NonNullType (One TypeCore ∷ []) (word Bang ∷ []) refl refl d in
    (_, (here, Reads-append both.0 (take BangTail (group BangTail (word Bang ∷ Wrap kind.NonNullType ∷ []) refl here both.1 done) done)))
refactored TypeReference (there (there (there m))) d = none_of m
refactored AliasTail m d = none_of m
refactored AfterSpread m d = none_of m
refactored BangTail m d = none_of m
refactored DescribedDefinition m d = none_of m
refactored _ m d = (_, (m, d))

pub group_same : (r : Rule) {a : List Symbol} → kind_of r ≡ None → IsOneOf a (declared r) → IsOneOf a (factored r)
group_same Definition i m = absurd (cc)
group_same Selection i m = absurd (cc)
group_same Field i m = absurd (cc)
group_same TypeReference i m = absurd (cc)
group_same AliasTail i m = none_of m
group_same AfterSpread i m = none_of m
group_same BangTail i m = none_of m
group_same DescribedDefinition i m = none_of m
group_same _ i m = m

-- completeness
pub to_factored : {ss : List Symbol} {x y : Row} {ws vs : List Word} → Reads declared ss x ws y vs → Reads factored ss x ws y vs
to_factored done = done
to_factored (token t w h d) = token t w h (to_factored d)
to_factored (tree r k a inner i m d1 d2) =
    let (b, found) = refactored r m (to_factored d1) in tree r k b inner i found.0 found.1 (to_factored d2)
to_factored (group r a i m d1 d2) = group r a i (group_same r i m) (to_factored d1) (to_factored d2)
to_factored (skip r d) = skip r (to_factored d)
to_factored (take r d1 d2) = take r (to_factored d1) (to_factored d2)
to_factored (stop r d) = stop r (to_factored d)
to_factored (again r d1 d2) = again r (to_factored d1) (to_factored d2)
to_factored (leave r h d) = leave r h (to_factored d)
to_factored (enter r d1 d2) = enter r (to_factored d1) (to_factored d2)
to_factored (wrap k d) = wrap k (to_factored d)
