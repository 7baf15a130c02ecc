-- What the grammar makes of a constant value: no variable, and enum values that are no literals.
use Rattle.std.proofs.Common.{◌≡◌, Bool, true, false, List, [], ◌∷◌, ◌++◌, Some, refl, sym, ◌∙◌, subst}
use Rattle.gql_grammar.specs.declared.word.Word.{Word}
use Rattle.gql_grammar.specs.declared.symbol.Symbol.{Symbol}
use Rattle.gql_grammar.specs.declared.symbol.Symbol.TheVariants.{Token, One, Optional, Repeated, Eager, Wrap, Close}
use Rattle.gql_grammar.specs.declared.symbol.Terminal.TheVariants.{NameButLiteral}
use Rattle.gql_grammar.specs.declared.rule.Rule.{Rule}
use Rattle.gql_grammar.specs.declared.rule.Rule.TheVariants as rule
use Rattle.gql_grammar.specs.declared.syntax_kind.SyntaxKind.{SyntaxKind}
use Rattle.gql_grammar.specs.declared.syntax_kind.SyntaxKind.TheVariants as kind
use Rattle.gql_grammar.specs.Grammar.{declared}
use Rattle.gql_grammar.specs.Row.{Row, nothing, leaf, node}
use Rattle.gql_grammar.specs.Rule.{kind_of}
use Rattle.gql_grammar.specs.Sentence.{Fits, IsOneOf, here, there}
use Rattle.gql_grammar.specs.Word.{takes}
use Rattle.gql_ast_base.specs.Kinds.{is_kind}

-- one name that is none of `true`, `false` and `null`
pub record IsEnumRow (x : Row) : Type 0 where
  pub word : Word
  pub is : x ≡ leaf word nothing
  pub other : takes NameButLiteral word ≡ true

-- no node, at any depth, is a variable, and each enum value is such a name
abbrev pub IsConstantRow : Row → Type 0
IsConstantRow nothing = Unit {0}
IsConstantRow (leaf w x) = IsConstantRow x
IsConstantRow (node k inner x) =
    (is_kind k kind.Variable ≡ false) × ((is_kind k kind.EnumValue ≡ true → IsEnumRow inner) × (IsConstantRow inner × IsConstantRow x))

-- ---- the rules of constant values

abbrev is_constant_rule : Rule → Bool
is_constant_rule rule.ConstValue = true
is_constant_rule rule.BooleanValue = true
is_constant_rule rule.NullValue = true
is_constant_rule rule.EnumValue = true
is_constant_rule rule.ConstListValue = true
is_constant_rule rule.ConstObjectValue = true
is_constant_rule rule.ConstObjectField = true
is_constant_rule _ = false

abbrev is_constant_symbol : Symbol → Bool
is_constant_symbol (Token terminal) = true
is_constant_symbol (One r) = is_constant_rule r
is_constant_symbol (Optional r) = is_constant_rule r
is_constant_symbol (Repeated r) = is_constant_rule r
is_constant_symbol (Eager r) = is_constant_rule r
is_constant_symbol (Wrap k) = false
is_constant_symbol (Close k) = false

abbrev AreConstant : List Symbol → Type 0
AreConstant [] = Unit {0}
AreConstant (s ∷ ss) = (is_constant_symbol s ≡ true) × AreConstant ss

abbrev AreWaysConstant : List (List Symbol) → Type 0
AreWaysConstant [] = Unit {0}
AreWaysConstant (way ∷ ways) = AreConstant way × AreWaysConstant ways

-- they are made of such rules alone
declared_constant : (r : Rule) → is_constant_rule r ≡ true → AreWaysConstant (declared r)
declared_constant rule.ConstValue h =
    ((refl, tt), ((refl, tt), ((refl, tt), ((refl, tt), ((refl, tt), ((refl, tt), ((refl, tt), ((refl, tt), tt))))))))
declared_constant rule.BooleanValue h = ((refl, tt), tt)
declared_constant rule.NullValue h = ((refl, tt), tt)
declared_constant rule.EnumValue h = ((refl, tt), tt)
declared_constant rule.ConstListValue h = ((refl, (refl, (refl, tt))), tt)
declared_constant rule.ConstObjectValue h = ((refl, (refl, (refl, tt))), tt)
declared_constant rule.ConstObjectField h = ((refl, (refl, (refl, tt))), tt)
declared_constant _ h = absurd (cc)

-- a node of another kind
record IsOther (k : SyntaxKind) : Type 0 where
  variable : is_kind k kind.Variable ≡ false
  enum : is_kind k kind.EnumValue ≡ false

enum_fits : {ws vs : List Word} {x : Row} → Fits (Token NameButLiteral ∷ []) ws x vs → IsEnumRow x
enum_fits (Fits.token t w h Fits.done) = record { word = w; is = refl; other = h }

enum_way : {ws vs : List Word} {x : Row} (way : List Symbol) → IsOneOf way (declared rule.EnumValue) → Fits way ws x vs → IsEnumRow x
enum_way _ here f = enum_fits f
enum_way _ (there o) f = elim o [ ]

-- what a node of such a rule is
abbrev IsNode : SyntaxKind → Row → Type 0
IsNode k inner = (is_kind k kind.Variable ≡ false) × (is_kind k kind.EnumValue ≡ true → IsEnumRow inner)

no_enum : (k : SyntaxKind) (inner : Row) → IsOther k → IsNode k inner
no_enum k inner o = (o.variable, λ e. absurd (let wrong : false ≡ true = sym o.enum ∙ e in cc))

other_kind : (r : Rule) (k : SyntaxKind) (inner : Row) (l : SyntaxKind) → kind_of r ≡ Some l → kind_of r ≡ Some k → IsOther l → IsNode k inner
other_kind r k inner l e is o = let same : l ≡ k = cc in no_enum k inner (subst IsOther same o)

node_is : {ws vs : List Word} {inner : Row} (r : Rule) (k : SyntaxKind) → kind_of r ≡ Some k → is_constant_rule r ≡ true → (way : List Symbol) → IsOneOf way (declared r) → Fits way ws inner vs
    → IsNode k inner
unfolding is_kind
node_is {inner = inner} rule.ConstValue k is h way o f = other_kind rule.ConstValue k inner kind.Value refl is (record { variable = refl; enum = refl })
node_is {inner = inner} rule.BooleanValue k is h way o f = other_kind rule.BooleanValue k inner kind.BooleanValue refl is (record { variable = refl; enum = refl })
node_is {inner = inner} rule.NullValue k is h way o f = other_kind rule.NullValue k inner kind.NullValue refl is (record { variable = refl; enum = refl })
node_is {inner = inner} rule.EnumValue k is h way o f =
    let same : kind.EnumValue ≡ k = cc in
    (subst (λ j. is_kind j kind.Variable ≡ false) same refl, λ e. enum_way way o f)
node_is {inner = inner} rule.ConstListValue k is h way o f = other_kind rule.ConstListValue k inner kind.ListValue refl is (record { variable = refl; enum = refl })
node_is {inner = inner} rule.ConstObjectValue k is h way o f = other_kind rule.ConstObjectValue k inner kind.ObjectValue refl is (record { variable = refl; enum = refl })
node_is {inner = inner} rule.ConstObjectField k is h way o f = other_kind rule.ConstObjectField k inner kind.ObjectField refl is (record { variable = refl; enum = refl })
node_is _ k is h way o f = absurd (cc)

one_constant : {way : List Symbol} (ways : List (List Symbol)) → AreWaysConstant ways → IsOneOf way ways → AreConstant way
one_constant (way ∷ ways) all here = all.0
one_constant (other ∷ ways) all (there one) = one_constant ways all.1 one
one_constant [] all one = elim one [ ]

both_constant : (ss ts : List Symbol) → AreConstant ss → AreConstant ts → AreConstant (ss ++ ts)
both_constant [] ts a b = b
both_constant (s ∷ ss) ts a b = (a.0, both_constant ss ts a.1 b)

fits_constant : {ss : List Symbol} {ws vs : List Word} {x : Row} → Fits ss ws x vs → AreConstant ss → IsConstantRow x
fits_constant Fits.done c = tt
fits_constant (Fits.token t w h d) c = fits_constant d c.1
fits_constant (Fits.tree r k way i m d1 d2) c =
    let n = node_is r k i c.0 way m d1 in
    (n.0, (n.1, (fits_constant d1 (one_constant (declared r) (declared_constant r c.0) m), fits_constant d2 c.1)))
fits_constant (Fits.group {ss = ss} r way i m d) c = fits_constant d (both_constant way ss (one_constant (declared r) (declared_constant r c.0) m) c.1)
fits_constant (Fits.skip r d) c = fits_constant d c.1
fits_constant (Fits.take r d) c = fits_constant d c
fits_constant (Fits.stop r d) c = fits_constant d c.1
fits_constant (Fits.again r d) c = fits_constant d (c.0, c)
fits_constant (Fits.leave r h d) c = fits_constant d c.1
fits_constant (Fits.enter r d) c = fits_constant d c

-- a sentence that is a constant value
pub sentence_constant : {ws : List Word} (inner : Row) → Fits (One rule.ConstValue ∷ []) ws (node kind.Value inner nothing) [] → IsConstantRow inner
sentence_constant inner f = (fits_constant f (refl, tt)).1.1.0
