-- What the grammar makes of a default has no variable in it.
use Rattle.std.proofs.Common.{◌≡◌, Bool, true, false, List, [], ◌∷◌, ◌++◌, Option, Some, refl, sym, subst}
use Rattle.gql_grammar.specs.declared.word.Word.{Word}
use Rattle.gql_grammar.specs.declared.symbol.Symbol.{Symbol}
use Rattle.gql_grammar.specs.declared.symbol.Symbol.TheVariants.{Token, One, Optional, Repeated, Eager, Wrap, Close}
use Rattle.gql_grammar.specs.declared.rule.Rule.{Rule}
use Rattle.gql_grammar.specs.declared.rule.Rule.TheVariants as rule
use Rattle.gql_grammar.specs.declared.syntax_kind.SyntaxKind.{SyntaxKind}
use Rattle.gql_grammar.specs.declared.syntax_kind.SyntaxKind.TheVariants as kind
use Rattle.gql_grammar.specs.Grammar.{declared}
use Rattle.gql_grammar.specs.Nodes.{IsAllowed}
use Rattle.gql_grammar.specs.Row.{Row, nothing, leaf, node}
use Rattle.gql_grammar.specs.Rule.{kind_of}
use Rattle.gql_grammar.specs.Sentence.{Fits, IsOneOf, here, there}
use Rattle.gql_ast_base.specs.Kinds.{is_kind}

-- no node, at any depth, is a variable
abbrev pub NoVariable : Row → Type 0
NoVariable nothing = Unit {0}
NoVariable (leaf w x) = NoVariable x
NoVariable (node k inner x) = (is_kind k kind.Variable ≡ false) × (NoVariable inner × NoVariable x)

-- ---- the rules of constant values

abbrev is_constant_rule : Rule → Bool
is_constant_rule rule.ConstValue = true
is_constant_rule rule.BooleanValue = true
is_constant_rule rule.NullValue = true
is_constant_rule rule.EnumValue = true
is_constant_rule rule.ConstListValue = true
is_constant_rule rule.ConstObjectValue = true
is_constant_rule rule.ConstObjectField = true
is_constant_rule _ = false

abbrev is_constant_symbol : Symbol → Bool
is_constant_symbol (Token terminal) = true
is_constant_symbol (One r) = is_constant_rule r
is_constant_symbol (Optional r) = is_constant_rule r
is_constant_symbol (Repeated r) = is_constant_rule r
is_constant_symbol (Eager r) = is_constant_rule r
is_constant_symbol (Wrap k) = false
is_constant_symbol (Close k) = false

abbrev AreConstant : List Symbol → Type 0
AreConstant [] = Unit {0}
AreConstant (s ∷ ss) = (is_constant_symbol s ≡ true) × AreConstant ss

abbrev AreWaysConstant : List (List Symbol) → Type 0
AreWaysConstant [] = Unit {0}
AreWaysConstant (way ∷ ways) = AreConstant way × AreWaysConstant ways

-- they are made of such rules alone
declared-constant : (r : Rule) → is_constant_rule r ≡ true → AreWaysConstant (declared r)
declared-constant rule.ConstValue h =
    ((refl, tt), ((refl, tt), ((refl, tt), ((refl, tt), ((refl, tt), ((refl, tt), ((refl, tt), ((refl, tt), tt))))))))
declared-constant rule.BooleanValue h = ((refl, tt), tt)
declared-constant rule.NullValue h = ((refl, tt), tt)
declared-constant rule.EnumValue h = ((refl, tt), tt)
declared-constant rule.ConstListValue h = ((refl, (refl, (refl, tt))), tt)
declared-constant rule.ConstObjectValue h = ((refl, (refl, (refl, tt))), tt)
declared-constant rule.ConstObjectField h = ((refl, (refl, (refl, tt))), tt)
declared-constant _ h = absurd (cc)

-- and none makes a variable
kind-constant : (r : Rule) (k : SyntaxKind) → kind_of r ≡ Some k → is_constant_rule r ≡ true → is_kind k kind.Variable ≡ false
unfolding is_kind
kind-constant rule.ConstValue k is h = let same : kind.Value ≡ k = cc in subst (λ j. is_kind j kind.Variable ≡ false) same refl
kind-constant rule.BooleanValue k is h = let same : kind.BooleanValue ≡ k = cc in subst (λ j. is_kind j kind.Variable ≡ false) same refl
kind-constant rule.NullValue k is h = let same : kind.NullValue ≡ k = cc in subst (λ j. is_kind j kind.Variable ≡ false) same refl
kind-constant rule.EnumValue k is h = let same : kind.EnumValue ≡ k = cc in subst (λ j. is_kind j kind.Variable ≡ false) same refl
kind-constant rule.ConstListValue k is h = let same : kind.ListValue ≡ k = cc in subst (λ j. is_kind j kind.Variable ≡ false) same refl
kind-constant rule.ConstObjectValue k is h = let same : kind.ObjectValue ≡ k = cc in subst (λ j. is_kind j kind.Variable ≡ false) same refl
kind-constant rule.ConstObjectField k is h = let same : kind.ObjectField ≡ k = cc in subst (λ j. is_kind j kind.Variable ≡ false) same refl
kind-constant _ k is h = absurd (cc)

one-constant : {way : List Symbol} (ways : List (List Symbol)) → AreWaysConstant ways → IsOneOf way ways → AreConstant way
one-constant (way ∷ ways) all here = all.0
one-constant (other ∷ ways) all (there one) = one-constant ways all.1 one
one-constant [] all one = elim one [ ]

both-constant : (ss ts : List Symbol) → AreConstant ss → AreConstant ts → AreConstant (ss ++ ts)
both-constant [] ts a b = b
both-constant (s ∷ ss) ts a b = (a.0, both-constant ss ts a.1 b)

fits-constant : {ss : List Symbol} {ws vs : List Word} {row : Row} → Fits ss ws row vs → AreConstant ss → NoVariable row
fits-constant Fits.done c = tt
fits-constant (Fits.token t w h d) c = fits-constant d c.1
fits-constant (Fits.tree r k way i m d1 d2) c = (kind-constant r k i c.0, (fits-constant d1 (one-constant (declared r) (declared-constant r c.0) m), fits-constant d2 c.1))
fits-constant (Fits.group {ss = ss} r way i m d) c = fits-constant d (both-constant way ss (one-constant (declared r) (declared-constant r c.0) m) c.1)
fits-constant (Fits.skip r d) c = fits-constant d c.1
fits-constant (Fits.take r d) c = fits-constant d c
fits-constant (Fits.stop r d) c = fits-constant d c.1
fits-constant (Fits.again r d) c = fits-constant d (c.0, c)
fits-constant (Fits.leave r h d) c = fits-constant d c.1
fits-constant (Fits.enter r d) c = fits-constant d c

-- ---- a default

default-ways : (r : Rule) → kind_of r ≡ Some kind.DefaultValue → AreWaysConstant (declared r)
default-ways rule.DefaultValue is = ((refl, (refl, tt)), tt)
default-ways _ is = absurd (cc)

pub default-free : (inner : Row) → IsAllowed kind.DefaultValue inner → NoVariable inner
default-free inner a = fits-constant a.fits (one-constant (declared a.rule) (default-ways a.rule a.of_kind) a.one)
