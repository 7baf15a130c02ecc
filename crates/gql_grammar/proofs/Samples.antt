-- Whatever is left to read can be read to its end: there are words for each symbol.
use Rattle.std.proofs.lemmas.Bool.{ltb-true}
use Rattle.std.proofs.Common.{◌≡◌, ℕ, zero, suc, ◌+◌, ◌<◌, Bool, true, false, ◌&&◌, ◌==◌, nat_lt, eq-eqb, List, [], ◌∷◌, length, Option, Some, None, refl, arith}
use Rattle.gql_grammar.specs.declared.word.Word.{Word}
use Rattle.gql_grammar.specs.declared.word.Word.TheVariants.{OtherName}
use Rattle.gql_grammar.specs.declared.symbol.Terminal.{Terminal}
use Rattle.gql_grammar.specs.declared.symbol.Terminal.TheVariants.{Exactly, AnyName, NameButOn, NameButLiteral}
use Rattle.gql_grammar.specs.declared.symbol.Symbol.{Symbol}
use Rattle.gql_grammar.specs.declared.symbol.Symbol.TheVariants.{Token, One, Optional, Repeated, Eager, Wrap, Close}
use Rattle.gql_grammar.specs.declared.rule.Rule.{Rule}
use Rattle.gql_grammar.specs.declared.rule.Rule.TheVariants.{Document, Definition, OperationDefinition, OperationType, SelectionSet, Selection, Field, Alias, Arguments, Argument, FragmentSpread, InlineFragment, FragmentDefinition, FragmentName, TypeCondition, Value, ConstValue, BooleanValue, NullValue, EnumValue, Variable, ListValue, ConstListValue, ObjectValue, ConstObjectValue, ObjectField, ConstObjectField, VariableDefinitions, VariableDefinition, DefaultValue, TypeReference, NamedType, ListType, NonNullType, Directives, ConstDirectives, Directive, ConstDirective, ConstArguments, ConstArgument, Description, SchemaDefinition, RootOperationTypeDefinition, ScalarTypeDefinition, ObjectTypeDefinition, InterfaceTypeDefinition, ImplementsInterfaces, FieldsDefinition, FieldDefinition, ArgumentsDefinition, InputValueDefinition, UnionTypeDefinition, UnionMemberTypes, EnumTypeDefinition, EnumValuesDefinition, EnumValueDefinition, InputObjectTypeDefinition, InputFieldsDefinition, DirectiveDefinition, Extension, FieldSet, OperationName, TypeCore, RootOperations, AmpersandSign, AmpersandType, BarSign, BarType, BarLocation, RepeatableSign, ExtendedDefinition, SchemaParts, ObjectParts, UnionParts, EnumParts, InputParts, DescribedDefinition, AfterSpread, AliasTail, BangTail}
use Rattle.gql_grammar.specs.declared.syntax_kind.SyntaxKind.{SyntaxKind}
use Rattle.gql_grammar.specs.Word.{takes, number}
use Rattle.gql_grammar.specs.Rule.{kind_of}
use Rattle.gql_grammar.specs.Factored.{factored}
use Rattle.gql_grammar.specs.Row.{Row, nothing, node, with_leaf, with_node}
use Rattle.gql_grammar.specs.Reads.{Reads, done, token, tree, group, skip, stop, enter, wrap, IsOneOf, here, there}
use Rattle.gql_grammar.specs.bridge.Ends.{Ends, end, symbol, close, closes}
use Rattle.gql_grammar.proofs.Words.{and_true}
use Rattle.gql_grammar.proofs.Checked.{is_closeless, good_way}
use Rattle.gql_grammar.proofs.Appended.{Reads-append}

-- a word that the terminal takes
abbrev pub sample : Terminal → Word
sample (Exactly w) = w
sample AnyName = OtherName
sample NameButOn = OtherName
sample NameButLiteral = OtherName

pub same-itself : (n : ℕ) → (n == n) ≡ true
same-itself n = eq-eqb n n refl

pub takes-sample : (t : Terminal) → takes t (sample t) ≡ true
takes-sample (Exactly w) = same-itself (number w)
takes-sample AnyName = refl
takes-sample NameButOn = refl
takes-sample NameButLiteral = refl

-- from any row on, some words make the symbols' row before the given words
abbrev pub Readable : List Symbol → Type 0
Readable ss = (vs : List Word) → (ws : List Word) × ((x : Row) → (y : Row) × Reads factored ss x ws y vs)

-- how deep the rules nest in the shortest words of the rule
abbrev pub height : Rule → ℕ
height Document = 3
height Definition = 2
height OperationDefinition = 4
height OperationType = 1
height SelectionSet = 3
height Selection = 2
height Field = 1
height Alias = 1
height Arguments = 3
height Argument = 2
height FragmentSpread = 2
height InlineFragment = 4
height FragmentDefinition = 4
height FragmentName = 1
height TypeCondition = 2
height Value = 1
height ConstValue = 1
height BooleanValue = 1
height NullValue = 1
height EnumValue = 1
height Variable = 1
height ListValue = 1
height ConstListValue = 1
height ObjectValue = 1
height ConstObjectValue = 1
height ObjectField = 2
height ConstObjectField = 2
height VariableDefinitions = 5
height VariableDefinition = 4
height DefaultValue = 2
height TypeReference = 3
height NamedType = 1
height ListType = 4
height NonNullType = 3
height Directives = 2
height ConstDirectives = 2
height Directive = 1
height ConstDirective = 1
height ConstArguments = 3
height ConstArgument = 2
height Description = 1
height SchemaDefinition = 4
height RootOperationTypeDefinition = 2
height ScalarTypeDefinition = 1
height ObjectTypeDefinition = 6
height InterfaceTypeDefinition = 6
height ImplementsInterfaces = 2
height FieldsDefinition = 5
height FieldDefinition = 4
height ArgumentsDefinition = 5
height InputValueDefinition = 4
height UnionTypeDefinition = 1
height UnionMemberTypes = 2
height EnumTypeDefinition = 4
height EnumValuesDefinition = 3
height EnumValueDefinition = 2
height InputObjectTypeDefinition = 6
height InputFieldsDefinition = 5
height DirectiveDefinition = 1
height Extension = 4
height FieldSet = 3
height OperationName = 1
height TypeCore = 2
height RootOperations = 3
height AmpersandSign = 1
height AmpersandType = 2
height BarSign = 1
height BarType = 2
height BarLocation = 1
height RepeatableSign = 1
height ExtendedDefinition = 3
height SchemaParts = 4
height ObjectParts = 6
height UnionParts = 3
height EnumParts = 4
height InputParts = 6
height DescribedDefinition = 1
height AfterSpread = 2
height AliasTail = 1
height BangTail = 1

-- the rules that can't be left out nest less deep, `Eager` ones included
abbrev pub is_low : ℕ → List Symbol → Bool
is_low n [] = true
is_low n (Token t ∷ ss) = is_low n ss
is_low n (One r ∷ ss) = nat_lt (height r) n && is_low n ss
is_low n (Optional r ∷ ss) = is_low n ss
is_low n (Repeated r ∷ ss) = is_low n ss
is_low n (Eager r ∷ ss) = nat_lt (height r) n && is_low n ss
is_low n (Wrap k ∷ ss) = is_low n ss
is_low n (Close k ∷ ss) = is_low n ss

abbrev pub some_low : ℕ → List (List Symbol) → Bool
some_low n [] = false
some_low n (a ∷ ways) = elim (is_low n a) [ true ↦ true | false ↦ some_low n ways ]

pub heights_ok : (r : Rule) → some_low (height r) (factored r) ≡ true
heights_ok Document = refl
heights_ok _ = refl

abbrev pub Low : ℕ → List (List Symbol) → Type 0
Low n ways = (a : List Symbol) × (IsOneOf a ways × (is_low n a ≡ true))

pub low_more : (n : ℕ) (a : List Symbol) (ways : List (List Symbol)) → Low n ways → Low n (a ∷ ways)
low_more n a ways (b, found) = (b, (there found.0, found.1))

pub low_or : (n : ℕ) (a : List Symbol) (ways : List (List Symbol)) (b : Bool) → is_low n a ≡ b
    → (some_low n ways ≡ true → Low n ways) → (elim b as (λ c. Bool) [ true ↦ true | false ↦ some_low n ways ]) ≡ true → Low n (a ∷ ways)
low_or n a ways true e f h = (a, (here, e))
low_or n a ways false e f h = low_more n a ways (f h)

pub low_way : (n : ℕ) (ways : List (List Symbol)) → some_low n ways ≡ true → Low n ways
low_way n [] h = absurd (cc)
low_way n (a ∷ ways) h = low_or n a ways (is_low n a) refl (low_way n ways) h

-- each rule less high than `n` is readable
abbrev pub AllBelow : ℕ → Type 0
AllBelow n = (r : Rule) → height r < n → Readable (One r ∷ [])

pub readable-low : (n : ℕ) → AllBelow n → (a : List Symbol) → is_closeless a ≡ true → is_low n a ≡ true → Readable a
readable-low n f [] c h vs = (vs, λ x. (x, done))
readable-low n f (Token t ∷ a) c h vs =
    let (ws, rest) = readable-low n f a c h vs in
    (sample t ∷ ws, λ x. let (y, d) = rest (with_leaf x (sample t)) in (y, token t (sample t) (takes-sample t) d))
readable-low n f (One r ∷ a) c h vs =
    let two = and_true (nat_lt (height r) n) (is_low n a) h in
    let (us, rest) = readable-low n f a c two.1 vs in
    let (ws, first) = f r (ltb-true (height r) n two.0) us in
    (ws, λ x. let (z, d) = first x in let (y, e) = rest z in (y, Reads-append d e))
readable-low n f (Optional r ∷ a) c h vs =
    let (ws, rest) = readable-low n f a c h vs in (ws, λ x. let (y, d) = rest x in (y, skip r d))
readable-low n f (Repeated r ∷ a) c h vs =
    let (ws, rest) = readable-low n f a c h vs in (ws, λ x. let (y, d) = rest x in (y, stop r d))
readable-low n f (Eager r ∷ a) c h vs =
    let two = and_true (nat_lt (height r) n) (is_low n a) h in
    let (us, rest) = readable-low n f a c two.1 vs in
    let (ws, first) = f r (ltb-true (height r) n two.0) us in
    (ws, λ x. let (z, d) = first x in let (y, e) = rest z in (y, enter r d e))
readable-low n f (Wrap k ∷ a) c h vs =
    let (ws, rest) = readable-low n f a c h vs in (ws, λ x. let (y, d) = rest (node k x nothing) in (y, wrap k d))
readable-low n f (Close k ∷ a) c h vs = absurd (cc)

pub readable-way : (r : Rule) (a : List Symbol) → IsOneOf a (factored r) → Readable a → Readable (One r ∷ [])
readable-way r a m f vs =
    let (ws, g) = f vs in (ws, λ x. one_way r a m x vs ws g (kind_of r) refl)
  where
    one_way : (r : Rule) (a : List Symbol) → IsOneOf a (factored r) → (x : Row) (vs ws : List Word)
        → ((x : Row) → (y : Row) × Reads factored a x ws y vs) → (o : Option SyntaxKind) → kind_of r ≡ o → (y : Row) × Reads factored (One r ∷ []) x ws y vs
    one_way r a m x vs ws g (Some k) i = let (inner, d) = g nothing in (with_node x k inner, tree r k a inner i m d done)
    one_way r a m x vs ws g None i = let (y, d) = g x in (y, group r a i m d done)

pub below : (n : ℕ) → AllBelow n
below zero r h = absurd (omega arith)
below (suc n) r h =
    let (a, found) = low_way (height r) (factored r) (heights_ok r) in
    readable-way r a found.0
    (readable-low (height r) (λ q l. below n q (let low : height q < n = omega arith in low)) a (good_way r found.0).closeless found.1)

-- each rule is readable
pub readable : (r : Rule) → Readable (One r ∷ [])
readable r = below (height r + 1) r (omega arith)

-- a stack that ends as many nodes as are open can be read to its end
abbrev pub Endable : List Symbol → Type 0
Endable ss = (ws : List Word) × ((x : Row) (rows : List Row) → closes ss ≡ length rows → (out : Row) × Ends ss x rows ws out)

pub endable-one : (r : Rule) (ss : List Symbol) → Endable ss → Endable (One r ∷ ss)
endable-one r ss (us, rest) =
    let (ws, first) = readable r us in
    (ws, λ x rows b. let (z, d) = first x in let (out, e) = rest z rows b in (out, symbol d e))

pub no_rows : (x : Row) (rows : List Row) → 0 ≡ length (x ∷ rows) → ⊥
no_rows x rows h = omega arith

pub endable : (ss : List Symbol) → Endable ss
endable [] = ([], at_end)
  where
    at_end : (x : Row) (rows : List Row) → 0 ≡ length rows → (out : Row) × Ends [] x rows [] out
    at_end x [] b = (x, end)
    at_end x (y ∷ rows) b = absurd (no_rows y rows b)
endable (Token t ∷ ss) =
    let (ws, rest) = endable ss in
    (sample t ∷ ws, λ x rows b. let (out, e) = rest (with_leaf x (sample t)) rows b in (out, symbol (token t (sample t) (takes-sample t) done) e))
endable (One r ∷ ss) = endable-one r ss (endable ss)
endable (Optional r ∷ ss) =
    let (ws, rest) = endable ss in (ws, λ x rows b. let (out, e) = rest x rows b in (out, symbol (skip r done) e))
endable (Repeated r ∷ ss) =
    let (ws, rest) = endable ss in (ws, λ x rows b. let (out, e) = rest x rows b in (out, symbol (stop r done) e))
endable (Eager r ∷ ss) =
    let (us, rest) = endable ss in
    let (ws, first) = readable r us in
    (ws, λ x rows b. let (z, d) = first x in let (out, e) = rest z rows b in (out, symbol (enter r d done) e))
endable (Wrap k ∷ ss) =
    let (ws, rest) = endable ss in (ws, λ x rows b. let (out, e) = rest (node k x nothing) rows b in (out, symbol (wrap k done) e))
endable (Close k ∷ ss) =
    let (ws, rest) = endable ss in (ws, closed ss k ws rest)
  where
    closed : (ss : List Symbol) (k : SyntaxKind) (ws : List Word)
        → ((x : Row) (rows : List Row) → closes ss ≡ length rows → (out : Row) × Ends ss x rows ws out)
        → (x : Row) (rows : List Row) → closes ss + 1 ≡ length rows → (out : Row) × Ends (Close k ∷ ss) x rows ws out
    closed ss k ws rest x [] b = absurd (omega arith)
    closed ss k ws rest x (y ∷ rows) b =
        let (out, e) = rest (with_node y k x) rows (omega arith) in (out, close k e)
