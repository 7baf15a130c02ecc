-- The turns of a stack fall with each turn that takes no word.
use Rattle.std.proofs.lemmas.Bool.{leb-true}
use Rattle.std.proofs.Common.{◌≡◌, ℕ, ◌+◌, ◌≤◌, Bool, true, nat_le, List, [], ◌∷◌, ◌++◌, Some, refl, ap, arith}
use Rattle.gql_grammar.specs.declared.word.Word.{Word}
use Rattle.gql_grammar.specs.declared.symbol.Symbol.{Symbol}
use Rattle.gql_grammar.specs.declared.symbol.Symbol.TheVariants.{Token, One, Optional, Repeated, Eager, Wrap, Close}
use Rattle.gql_grammar.specs.declared.rule.Rule.{Rule}
use Rattle.gql_grammar.specs.declared.rule.Rule.TheVariants.{Document}
use Rattle.gql_grammar.specs.Factored.{factored}
use Rattle.gql_grammar.specs.Starts.{way}
use Rattle.gql_grammar.specs.bridge.Turns.{rank, turns}
use Rattle.gql_grammar.proofs.Ways.{all_ways, all_ways-at}
use Rattle.gql_grammar.proofs.Checked.{is_solid, good_way}
use Rattle.gql_grammar.proofs.Steps.{way-in}

-- the way takes at most so many turns
abbrev pub is_ranked : ℕ → List Symbol → Bool
is_ranked n a = nat_le (turns a) n

pub ranks_ok : (r : Rule) → all_ways (is_ranked (rank r)) (factored r) ≡ true
ranks_ok Document = refl
ranks_ok _ = refl

-- nothing behind symbols that read a word adds to their turns
pub turns-append : (a b : List Symbol) → is_solid a ≡ true → turns (a ++ b) ≡ turns a
turns-append [] b h = cc
turns-append (Token t ∷ a) b h = refl
turns-append (One r ∷ a) b h = refl
turns-append (Optional r ∷ a) b h = ap (λ n. 2 + rank r + n) (turns-append a b h)
turns-append (Repeated r ∷ a) b h = ap (λ n. 2 + rank r + n) (turns-append a b h)
turns-append (Eager r ∷ a) b h = ap (λ n. 2 + rank r + n) (turns-append a b h)
turns-append (Wrap k ∷ a) b h = ap (λ n. 1 + n) (turns-append a b h)
turns-append (Close k ∷ a) b h = ap (λ n. 1 + n) (turns-append a b h)

-- a rule that is written out takes fewer turns
pub turns-way : (r : Rule) (w : Word) (a b : List Symbol) → way r w ≡ Some a → turns (a ++ b) ≤ rank r
turns-way r w a b h =
    let m = way-in r w a h in
    let same : turns (a ++ b) ≡ turns a = turns-append a b (good_way r m).solid in
    let few : turns a ≤ rank r = leb-true (turns a) (rank r) (all_ways-at (is_ranked (rank r)) (factored r) (ranks_ok r) m) in
    omega arith
