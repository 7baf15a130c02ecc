-- The grammar is such that the next word always decides: a computation, rule by rule.
use Rattle.std.proofs.Common.{◌≡◌, Bool, true, false, ◌&&◌, List, [], ◌∷◌, refl}
use Rattle.gql_grammar.specs.declared.word.Word.{Word}
use Rattle.gql_grammar.specs.declared.symbol.Symbol.{Symbol}
use Rattle.gql_grammar.specs.declared.symbol.Symbol.TheVariants.{Token, One, Optional, Repeated, Eager, Wrap, Close}
use Rattle.gql_grammar.specs.declared.rule.Rule.{Rule}
use Rattle.gql_grammar.specs.declared.rule.Rule.TheVariants.{Document}
use Rattle.gql_grammar.specs.Word.{has}
use Rattle.gql_grammar.specs.Factored.{factored}
use Rattle.gql_grammar.specs.Reads.{IsOneOf, here, there}
use Rattle.gql_grammar.specs.Starts.{starts, leads, begins}
use Rattle.gql_grammar.specs.bridge.Decided.{follow, IsDecided}
use Rattle.gql_grammar.proofs.Words.{and_true, every, implies}
use Rattle.gql_grammar.proofs.Ways.{everywhere, none_of, decides, decides-true, implied, all_apart}

-- some word is read
abbrev pub is_solid : List Symbol → Bool
is_solid [] = false
is_solid (Token t ∷ ss) = true
is_solid (One r ∷ ss) = true
is_solid (Optional r ∷ ss) = is_solid ss
is_solid (Repeated r ∷ ss) = is_solid ss
is_solid (Eager r ∷ ss) = is_solid ss
is_solid (Wrap k ∷ ss) = is_solid ss
is_solid (Close k ∷ ss) = is_solid ss

-- no node ends
abbrev pub is_closeless : List Symbol → Bool
is_closeless [] = true
is_closeless (Token t ∷ ss) = is_closeless ss
is_closeless (One r ∷ ss) = is_closeless ss
is_closeless (Optional r ∷ ss) = is_closeless ss
is_closeless (Repeated r ∷ ss) = is_closeless ss
is_closeless (Eager r ∷ ss) = is_closeless ss
is_closeless (Wrap k ∷ ss) = is_closeless ss
is_closeless (Close k ∷ ss) = false

abbrev pub way_ok : Rule → List Symbol → Bool
way_ok r a =
    every (λ w. implies (leads everywhere a w) (starts r w))
    && (every (λ w. implies (leads everywhere a w) (begins a w))
    && (is_solid a && (is_closeless a && decides (has (follow r)) a)))

abbrev pub ways_ok : Rule → List (List Symbol) → Bool
ways_ok r [] = true
ways_ok r (a ∷ ways) = way_ok r a && ways_ok r ways

abbrev pub rule_ok : Rule → Bool
rule_ok r = ways_ok r (factored r) && all_apart (factored r)

pub grammar_ok : (r : Rule) → rule_ok r ≡ true
grammar_ok Document = refl
grammar_ok _ = refl

pub record IsGoodWay (r : Rule) (a : List Symbol) : Type 0 where
  pub within : (w : Word) → leads everywhere a w ≡ true → starts r w ≡ true
  pub itself : (w : Word) → leads everywhere a w ≡ true → begins a w ≡ true
  pub solid : is_solid a ≡ true
  pub closeless : is_closeless a ≡ true
  pub decided : IsDecided (has (follow r)) a

pub way_ok-good : (r : Rule) (a : List Symbol) → way_ok r a ≡ true → IsGoodWay r a
way_ok-good r a h =
    let h1 = and_true (every (λ w. implies (leads everywhere a w) (starts r w))) _ h in
    let h2 = and_true (every (λ w. implies (leads everywhere a w) (begins a w))) _ h1.1 in
    let h3 = and_true (is_solid a) _ h2.1 in
    let h4 = and_true (is_closeless a) _ h3.1 in
    record {
      within = implied (leads everywhere a) (starts r) h1.0;
      itself = implied (leads everywhere a) (begins a) h2.0;
      solid = h3.0;
      closeless = h4.0;
      decided = decides-true (has (follow r)) a h4.1;
    }

pub ways_ok-good : (r : Rule) (ways : List (List Symbol)) → ways_ok r ways ≡ true → {a : List Symbol} → IsOneOf a ways → IsGoodWay r a
ways_ok-good r (a ∷ ways) h here = way_ok-good r a (and_true (way_ok r a) (ways_ok r ways) h).0
ways_ok-good r (a ∷ ways) h (there m) = ways_ok-good r ways (and_true (way_ok r a) (ways_ok r ways) h).1 m
ways_ok-good r [] h m = none_of m

-- each way to write a rule is good
pub good_way : (r : Rule) {a : List Symbol} → IsOneOf a (factored r) → IsGoodWay r a
good_way r m = ways_ok-good r (factored r) (and_true (ways_ok r (factored r)) (all_apart (factored r)) (grammar_ok r)).0 m

pub ways_apart : (r : Rule) → all_apart (factored r) ≡ true
ways_apart r = (and_true (ways_ok r (factored r)) (all_apart (factored r)) (grammar_ok r)).1
