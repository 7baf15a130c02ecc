-- What the factored grammar makes of words, the declared one makes of them.
--
-- In between stands a third grammar: the declared one, with the parts that end in `Wrap` as they are factored.
use Rattle.std.proofs.Common.{◌≡◌, Bool, true, false, ◌&&◌, not, if◌then◌else◌, List, [], ◌∷◌, None, refl}
use Rattle.gql_grammar.specs.declared.word.Word.{Word}
use Rattle.gql_grammar.specs.declared.word.Word.TheVariants.{Spread, Colon, Bang, At, OnWord, SchemaWord, ScalarWord, TypeWord, InterfaceWord, UnionWord, EnumWord, InputWord, DirectiveWord, LocationWord}
use Rattle.gql_grammar.specs.declared.symbol.Symbol.{Symbol}
use Rattle.gql_grammar.specs.declared.symbol.Symbol.TheVariants.{Token, One, Optional, Repeated, Eager, Wrap, Close}
use Rattle.gql_grammar.specs.declared.symbol.Terminal.TheVariants.{AnyName}
use Rattle.gql_grammar.specs.declared.rule.Rule.{Rule}
use Rattle.gql_grammar.specs.declared.rule.Rule.TheVariants.{Document, Definition, SelectionSet, Selection, Field, Alias, Arguments, FragmentSpread, InlineFragment, FragmentName, TypeCondition, TypeReference, NonNullType, Directives, ConstDirectives, Description, SchemaDefinition, ScalarTypeDefinition, ObjectTypeDefinition, InterfaceTypeDefinition, ImplementsInterfaces, FieldsDefinition, ArgumentsDefinition, UnionTypeDefinition, UnionMemberTypes, EnumTypeDefinition, EnumValuesDefinition, InputObjectTypeDefinition, InputFieldsDefinition, DirectiveDefinition, TypeCore, RootOperations, BarSign, BarLocation, RepeatableSign, DescribedDefinition, AfterSpread, AliasTail, BangTail}
use Rattle.gql_grammar.specs.declared.syntax_kind.SyntaxKind.TheVariants as kind
use Rattle.gql_grammar.specs.Grammar.{word, Grammar, declared}
use Rattle.gql_grammar.specs.Factored.{factored}
use Rattle.gql_grammar.specs.Rule.{kind_of}
use Rattle.gql_grammar.specs.Word.{takes}
use Rattle.gql_grammar.specs.Row.{Row, nothing, leaf}
use Rattle.gql_grammar.specs.Reads.{Reads, done, token, tree, group, skip, take, stop, again, leave, enter, wrap, IsOneOf, here, there}
use Rattle.gql_grammar.proofs.Words.{and_true}
use Rattle.gql_grammar.proofs.Ways.{none_of, all_ways, all_ways-at}
use Rattle.gql_grammar.proofs.Appended.{first_symbol}
use Rattle.gql_grammar.proofs.Tails.{way_of_group, fold_tail}

-- the parts that the factored grammar alone has
abbrev pub is_tail : Rule → Bool
is_tail AliasTail = true
is_tail AfterSpread = true
is_tail BangTail = true
is_tail DescribedDefinition = true
is_tail _ = false

abbrev pub mixed : Grammar
mixed r = if is_tail r then factored r else declared r

-- a way to write the rule by the third grammar, and what it reads
abbrev pub Mixed : Rule → List Word → Row → List Word → Type 0
Mixed r ws y vs = (a : List Symbol) × (IsOneOf a (mixed r) × Reads mixed a nothing ws y vs)

pub described : {a : List Symbol} {x y : Row} {ws us vs : List Word}
    → IsOneOf a (factored DescribedDefinition) → Reads mixed (Optional Description ∷ []) nothing ws x us → Reads mixed a x us y vs → Mixed Definition ws y vs
described here d e =
    (One SchemaDefinition ∷ [], ((there (there here)), fold_tail SchemaDefinition (Optional Description ∷ []) (word SchemaWord ∷ Optional ConstDirectives ∷ One RootOperations ∷ []) refl here d e))
described (there here) d e =
    (One ScalarTypeDefinition ∷ [], ((there (there (there (there here)))), fold_tail ScalarTypeDefinition (Optional Description ∷ []) (word ScalarWord ∷ Token AnyName ∷ Optional ConstDirectives ∷ []) refl here d e))
described (there (there here)) d e =
    (One ObjectTypeDefinition ∷ [], ((there (there (there (there (there here))))), fold_tail ObjectTypeDefinition (Optional Description ∷ []) (word TypeWord ∷ Token AnyName ∷ Optional ImplementsInterfaces ∷ Optional ConstDirectives ∷ Eager FieldsDefinition ∷ []) refl here d e))
described (there (there (there here))) d e =
    (One InterfaceTypeDefinition ∷ [], ((there (there (there (there (there (there here)))))), fold_tail InterfaceTypeDefinition (Optional Description ∷ []) (word InterfaceWord ∷ Token AnyName ∷ Optional ImplementsInterfaces ∷ Optional ConstDirectives ∷ Eager FieldsDefinition ∷ []) refl here d e))
described (there (there (there (there here)))) d e =
    (One UnionTypeDefinition ∷ [], ((there (there (there (there (there (there (there here))))))), fold_tail UnionTypeDefinition (Optional Description ∷ []) (word UnionWord ∷ Token AnyName ∷ Optional ConstDirectives ∷ Optional UnionMemberTypes ∷ []) refl here d e))
described (there (there (there (there (there here))))) d e =
    (One EnumTypeDefinition ∷ [], ((there (there (there (there (there (there (there (there here)))))))), fold_tail EnumTypeDefinition (Optional Description ∷ []) (word EnumWord ∷ Token AnyName ∷ Optional ConstDirectives ∷ Eager EnumValuesDefinition ∷ []) refl here d e))
described (there (there (there (there (there (there here)))))) d e =
    (One InputObjectTypeDefinition ∷ [], ((there (there (there (there (there (there (there (there (there here))))))))), fold_tail InputObjectTypeDefinition (Optional Description ∷ []) (word InputWord ∷ Token AnyName ∷ Optional ConstDirectives ∷ Eager InputFieldsDefinition ∷ []) refl here d e))
described (there (there (there (there (there (there (there here))))))) d e =
    (One DirectiveDefinition ∷ [], ((there (there (there here))), fold_tail DirectiveDefinition (Optional Description ∷ []) (word DirectiveWord ∷ word At ∷ Token AnyName ∷ Optional ArgumentsDefinition ∷ Optional RepeatableSign ∷ word OnWord ∷ Optional BarSign ∷ word LocationWord ∷ Repeated BarLocation ∷ []) refl here d e))
described (there (there (there (there (there (there (there (there m)))))))) d e = none_of m

pub spread : {a : List Symbol} {x y : Row} {ws us vs : List Word}
    → IsOneOf a (factored AfterSpread) → Reads mixed (word Spread ∷ []) nothing ws x us → Reads mixed a x us y vs → Mixed Selection ws y vs
spread here d e = (One FragmentSpread ∷ [], (there here, fold_tail FragmentSpread (word Spread ∷ []) (One FragmentName ∷ Optional Directives ∷ []) refl here d e))
spread (there here) d e = (One InlineFragment ∷ [], (there (there here), fold_tail InlineFragment (word Spread ∷ []) (Optional TypeCondition ∷ Optional Directives ∷ One SelectionSet ∷ []) refl here d e))
spread (there (there m)) d e = none_of m

pub type_core : {a : List Symbol} {y : Row} {ws vs : List Word}
    → IsOneOf a (factored TypeCore) → Reads mixed a nothing ws y vs → Mixed TypeReference ws y vs
type_core here d = (_, (here, d))
type_core (there here) d = (_, (there here, d))
type_core (there (there m)) d = none_of m

pub bang : {a : List Symbol} {x y : Row} {ws us vs : List Word}
    → IsOneOf a (factored BangTail) → Reads mixed (One TypeCore ∷ []) nothing ws x us → Reads mixed a x us y vs → Mixed TypeReference ws y vs
bang here d e = (One NonNullType ∷ [], (there (there here), fold_tail NonNullType (One TypeCore ∷ []) (word Bang ∷ []) refl here d e))
bang (there m) d e = none_of m

pub after_core : {x y : Row} {ws us vs : List Word}
    → Reads mixed (One TypeCore ∷ []) nothing ws x us → Reads mixed (Optional BangTail ∷ []) x us y vs → Mixed TypeReference ws y vs
after_core d (skip r done) =
    let (a, found) = way_of_group refl d in type_core found.0 found.1
after_core d (take r e done) =
    let (a, found) = way_of_group refl e in bang found.0 d found.1

-- the symbols of a field behind its name
abbrev pub Behind : List Symbol
Behind = Optional Arguments ∷ Optional Directives ∷ Optional SelectionSet ∷ []

pub alias : {a : List Symbol} {w : Word} {z y : Row} {us ts vs : List Word}
    → IsOneOf a (factored AliasTail) → (takes AnyName w ≡ true) → Reads mixed a (leaf w nothing) us z ts → Reads mixed Behind z ts y vs → Mixed Field (w ∷ us) y vs
alias {w = w} here h (token t c hc (wrap k (token t2 v hv done))) e = (
  Optional Alias ∷ Token AnyName ∷ Behind,
  (
    here,
    take Alias (tree Alias kind.Alias (Token AnyName ∷ word Colon ∷ []) (leaf w (leaf c nothing)) refl here
        (token AnyName w h (token t c hc done)) done) (token t2 v hv e),
  ),
)
alias (there m) h d e = none_of m

pub field : {y : Row} {ws vs : List Word} → Reads mixed (Token AnyName ∷ Optional AliasTail ∷ Behind) nothing ws y vs → Mixed Field ws y vs
field (token t w h (skip r d)) = (Optional Alias ∷ Token AnyName ∷ Behind, (here, skip Alias (token t w h d)))
field (token t w h (take r d e)) =
    let (a, found) = way_of_group refl d in alias found.0 h found.1 e

pub two_parts : {y : Row} {ws vs : List Word} → Reads mixed (Optional Description ∷ One DescribedDefinition ∷ []) nothing ws y vs → Mixed Definition ws y vs
two_parts d =
    let (x, us, both) = first_symbol d in
    let (a, found) = way_of_group refl both.1 in described found.0 both.0 found.1

pub after_dots : {y : Row} {ws vs : List Word} → Reads mixed (word Spread ∷ One AfterSpread ∷ []) nothing ws y vs → Mixed Selection ws y vs
after_dots d =
    let (x, us, both) = first_symbol d in
    let (a, found) = way_of_group refl both.1 in spread found.0 both.0 found.1

pub core_and_bang : {y : Row} {ws vs : List Word} → Reads mixed (One TypeCore ∷ Optional BangTail ∷ []) nothing ws y vs → Mixed TypeReference ws y vs
core_and_bang d =
    let (x, us, both) = first_symbol d in after_core both.0 both.1

-- a factored way, read by the third grammar, is one of its own
pub defactored : (r : Rule) {a : List Symbol} {y : Row} {ws vs : List Word} → IsOneOf a (factored r) → Reads mixed a nothing ws y vs → Mixed r ws y vs
defactored Definition here d = (_, (here, d))
defactored Definition (there here) d = (_, (there here, d))
defactored Definition (there (there here)) d = (_, ((there (there (there (there (there (there (there (there (there (there here)))))))))), d))
defactored Definition (there (there (there here))) d = two_parts d
defactored Definition (there (there (there (there m)))) d = none_of m
defactored Selection here d = (_, (here, d))
defactored Selection (there here) d = after_dots d
defactored Selection (there (there m)) d = none_of m
defactored Field here d = field d
defactored Field (there m) d = none_of m
defactored TypeReference here d = core_and_bang d
defactored TypeReference (there m) d = none_of m
defactored _ m d = (_, (m, d))

pub group_same : (r : Rule) {a : List Symbol} → kind_of r ≡ None → IsOneOf a (factored r) → IsOneOf a (mixed r)
group_same Definition i m = absurd (cc)
group_same Selection i m = absurd (cc)
group_same Field i m = absurd (cc)
group_same TypeReference i m = absurd (cc)
group_same _ i m = m

pub to_mixed : {ss : List Symbol} {x y : Row} {ws vs : List Word} → Reads factored ss x ws y vs → Reads mixed ss x ws y vs
to_mixed done = done
to_mixed (token t w h d) = token t w h (to_mixed d)
to_mixed (tree r k a inner i m d1 d2) =
    let (b, found) = defactored r m (to_mixed d1) in tree r k b inner i found.0 found.1 (to_mixed d2)
to_mixed (group r a i m d1 d2) = group r a i (group_same r i m) (to_mixed d1) (to_mixed d2)
to_mixed (skip r d) = skip r (to_mixed d)
to_mixed (take r d1 d2) = take r (to_mixed d1) (to_mixed d2)
to_mixed (stop r d) = stop r (to_mixed d)
to_mixed (again r d1 d2) = again r (to_mixed d1) (to_mixed d2)
to_mixed (leave r h d) = leave r h (to_mixed d)
to_mixed (enter r d1 d2) = enter r (to_mixed d1) (to_mixed d2)
to_mixed (wrap k d) = wrap k (to_mixed d)

-- ---- the third grammar is the declared one, where its own parts are not reached

abbrev pub is_pure : List Symbol → Bool
is_pure [] = true
is_pure (Token t ∷ ss) = is_pure ss
is_pure (One r ∷ ss) = not (is_tail r) && is_pure ss
is_pure (Optional r ∷ ss) = not (is_tail r) && is_pure ss
is_pure (Repeated r ∷ ss) = not (is_tail r) && is_pure ss
is_pure (Eager r ∷ ss) = not (is_tail r) && is_pure ss
is_pure (Wrap k ∷ ss) = false
is_pure (Close k ∷ ss) = false

pub declared_pure : (r : Rule) → all_ways is_pure (declared r) ≡ true
declared_pure Document = refl
declared_pure _ = refl

pub not_true : (b : Bool) → not b ≡ true → b ≡ false
not_true true h = cc
not_true false h = refl

pub second_of : (b : Bool) (xs ys : List (List Symbol)) {a : List Symbol} → b ≡ false → IsOneOf a (if b then xs else ys) → IsOneOf a ys
second_of true xs ys h m = absurd (cc)
second_of false xs ys h m = m

pub unmixed : (r : Rule) {a : List Symbol} → not (is_tail r) ≡ true → IsOneOf a (mixed r) → IsOneOf a (declared r)
unmixed r h m = second_of (is_tail r) (factored r) (declared r) (not_true (is_tail r) h) m

pub both_true : (b : Bool) → b ≡ true → (b && true) ≡ true
both_true true h = refl
both_true false h = h

pub one_pure : (r : Rule) (b : Bool) → (not (is_tail r) && b) ≡ true → is_pure (One r ∷ []) ≡ true
one_pure r b h = both_true (not (is_tail r)) (and_true (not (is_tail r)) b h).0

pub from_mixed : {ss : List Symbol} {x y : Row} {ws vs : List Word} → is_pure ss ≡ true → Reads mixed ss x ws y vs → Reads declared ss x ws y vs
from_mixed p done = done
from_mixed p (token t w h d) = token t w h (from_mixed p d)
from_mixed p (tree {ss = ss} r k a inner i m d1 d2) =
    let two = and_true (not (is_tail r)) (is_pure ss) p in
    let n = unmixed r two.0 m in
    tree r k a inner i n (from_mixed (all_ways-at is_pure (declared r) (declared_pure r) n) d1) (from_mixed two.1 d2)
from_mixed p (group {ss = ss} r a i m d1 d2) =
    let two = and_true (not (is_tail r)) (is_pure ss) p in
    let n = unmixed r two.0 m in
    group r a i n (from_mixed (all_ways-at is_pure (declared r) (declared_pure r) n) d1) (from_mixed two.1 d2)
from_mixed p (skip {ss = ss} r d) = skip r (from_mixed (and_true (not (is_tail r)) (is_pure ss) p).1 d)
from_mixed p (take {ss = ss} r d1 d2) =
    take r (from_mixed (one_pure r (is_pure ss) p) d1) (from_mixed (and_true (not (is_tail r)) (is_pure ss) p).1 d2)
from_mixed p (stop {ss = ss} r d) = stop r (from_mixed (and_true (not (is_tail r)) (is_pure ss) p).1 d)
from_mixed p (again {ss = ss} r d1 d2) = again r (from_mixed (one_pure r (is_pure ss) p) d1) (from_mixed p d2)
from_mixed p (leave {ss = ss} r h d) = leave r h (from_mixed (and_true (not (is_tail r)) (is_pure ss) p).1 d)
from_mixed p (enter {ss = ss} r d1 d2) =
    enter r (from_mixed (one_pure r (is_pure ss) p) d1) (from_mixed (and_true (not (is_tail r)) (is_pure ss) p).1 d2)
from_mixed p (wrap k d) = absurd (cc)

-- soundness
pub to_declared : {ss : List Symbol} {x y : Row} {ws vs : List Word} → is_pure ss ≡ true → Reads factored ss x ws y vs → Reads declared ss x ws y vs
to_declared p d = from_mixed p (to_mixed d)
