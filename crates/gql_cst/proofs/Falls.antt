-- The turns that are left fall with each turn.
use Rattle.std.proofs.Common.{◌≡◌, ℕ, ◌<◌, ◌≤◌, Bool, true, false, List, [], ◌∷◌, ◌++◌, Option, Some, None, refl, arith}
use Rattle.std.specs.Prelude.{if◌then◌else◌}
use Rattle.gql_grammar.specs.declared.word.Word.{Word}
use Rattle.gql_grammar.specs.declared.rule.Rule.{Rule}
use Rattle.gql_grammar.specs.declared.symbol.Symbol.{Symbol}
use Rattle.gql_grammar.specs.declared.symbol.Symbol.TheVariants.{Token, One, Optional, Repeated, Eager, Wrap, Close}
use Rattle.gql_grammar.specs.declared.syntax_kind.SyntaxKind.{SyntaxKind}
use Rattle.gql_grammar.specs.Rule.{kind_of}
use Rattle.gql_grammar.specs.bridge.Stands.{way_at}
use Rattle.gql_grammar.specs.bridge.Turns.{rank, turns}
use Rattle.gql_grammar.proofs.Ranks.{turns-way}
use Rattle.gql_cst.specs.Forest.{Plain}
use Rattle.gql_cst.specs.bridge.Machine.{State, Turned, again, taken, refused, finished, entered, closed_in, enter, takes_at, turned_at, turned}

-- it is a further turn, and fewer than n are left then
abbrev FewerThan : ℕ → Turned → Type 0
FewerThan n (again s) = turns s.stack < n
FewerThan n (taken s) = Unit {0}
FewerThan n (refused s) = Unit {0}
FewerThan n (finished s) = Unit {0}

of_way : (r : Rule) (next : Option Word) (a b : List Symbol) → way_at r next ≡ Some a → turns (a ++ b) ≤ rank r
of_way r None a b h = cc
of_way r (Some w) a b h = turns-way r w a b h

entered_fewer : (k : Option SyntaxKind) (a : List Symbol) (s : State) (n : ℕ) → ((b : List Symbol) → turns (a ++ b) < n) → turns (entered k a s).stack < n
entered_fewer None a s n h = h s.stack
entered_fewer (Some k) a s n h = h _

enter_fewer : (w : Option (List Symbol)) (k : Option SyntaxKind) (s : State) (n : ℕ) (otherwise : Turned)
    → ((a : List Symbol) → w ≡ Some a → (b : List Symbol) → turns (a ++ b) < n) → FewerThan n otherwise → FewerThan n (enter w k s otherwise)
enter_fewer None k s n otherwise h p = p
enter_fewer (Some a) k s n otherwise h p = entered_fewer k a s n (h a refl)

at_token : (b : Bool) (s : State) (n : ℕ) → FewerThan n (if b then taken s else refused s)
at_token true s n = tt
at_token false s n = tt

at_close : (k : SyntaxKind) (rows : List (List Plain)) (s : State) (n : ℕ) → turns s.stack < n → turns (closed_in k rows s).stack < n
at_close k [] s n h = h
at_close k (outer ∷ rows) s n h = h

fewer_at : (next : Option Word) (stack : List Symbol) (s : State) → FewerThan (turns stack) (turned_at next stack s)
fewer_at next [] s = tt
fewer_at next (Token t ∷ stack) s = at_token (takes_at t next) _ _
fewer_at next (One r ∷ stack) s =
    enter_fewer (way_at r next) (kind_of r) _ _ _ (λ a e b. let few : turns (a ++ b) ≤ rank r = of_way r next a b e in omega arith) tt
fewer_at next (Optional r ∷ stack) s =
    enter_fewer (way_at r next) (kind_of r) _ _ _ (λ a e b. let few : turns (a ++ b) ≤ rank r = of_way r next a b e in omega arith) (omega arith)
fewer_at next (Eager r ∷ stack) s =
    enter_fewer (way_at r next) (kind_of r) _ _ _ (λ a e b. let few : turns (a ++ b) ≤ rank r = of_way r next a b e in omega arith) (omega arith)
fewer_at next (Repeated r ∷ stack) s =
    enter_fewer (way_at r next) (kind_of r) _ _ _ (λ a e b. let few : turns (a ++ b) ≤ rank r = of_way r next a b e in omega arith) (omega arith)
fewer_at next (Wrap k ∷ stack) s = omega arith
fewer_at next (Close k ∷ stack) s = at_close k s.rows (record s { stack = stack }) (turns (Close k ∷ stack)) (omega arith)

pub turns-fall : (next : Option Word) (s new : State) → turned next s ≡ again new → turns new.stack < turns s.stack
turns-fall next s new e = let h : FewerThan (turns s.stack) (turned next s) = fewer_at next s.stack s in rw e at h
