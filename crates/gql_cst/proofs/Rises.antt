-- A word that is taken stands in at most one level more than the words before, and the greatest level says which.
use Rattle.std.proofs.Common.{◌≡◌, ◌⊎◌, inl, inr, ℕ, ◌+◌, ◌≤◌, max, Bool, true, false, ◌&&◌, ◌||◌, List, [], ◌∷◌, ◌++◌, Option, Some, None, refl, sym, subst, arith}
use Rattle.std.specs.Prelude.{◌==◌, if◌then◌else◌}
use Rattle.std.proofs.lemmas.Bool.{eqb-true}
use Rattle.gql_grammar.specs.declared.word.Word.{Word}
use Rattle.gql_grammar.specs.declared.rule.Rule.{Rule}
use Rattle.gql_grammar.specs.declared.rule.Rule.TheVariants.{Document}
use Rattle.gql_grammar.specs.declared.symbol.Symbol.{Symbol}
use Rattle.gql_grammar.specs.declared.symbol.Symbol.TheVariants.{Token, One, Optional, Repeated, Eager, Wrap, Close}
use Rattle.gql_grammar.specs.declared.syntax_kind.SyntaxKind.{SyntaxKind}
use Rattle.gql_grammar.specs.Factored.{factored}
use Rattle.gql_grammar.specs.Row.{level}
use Rattle.gql_grammar.specs.Rule.{kind_of}
use Rattle.gql_grammar.specs.Starts.{starts, begins, chosen, way}
use Rattle.gql_grammar.specs.bridge.Stands.{way_at}
use Rattle.gql_grammar.specs.Word.{takes}
use Rattle.gql_cst.specs.Forest.{Plain}
use Rattle.gql_cst.specs.bridge.Machine.{State, Turned, again, taken, refused, finished, entered, pushed, closed_in, enter, turned_at, Settles, takes_it, refuses_it, finishes, later, Begins, Judges}
use Rattle.gql_cst.specs.bridge.Sound.{IsSound}
use Rattle.gql_cst.proofs.Rows.{nesting_of-ended}
use Rattle.gql_cst.proofs.Ways.{both}

-- ---- a rule whose node opens a level is written with its bracket first

abbrev has_token : List Symbol → Bool
has_token (Token t ∷ ss) = true
has_token _ = false

abbrev all_tokens : List (List Symbol) → Bool
all_tokens [] = false
all_tokens (x ∷ []) = has_token x
all_tokens (x ∷ next ∷ ways) = has_token x && all_tokens (next ∷ ways)

abbrev brackets : Option SyntaxKind → List (List Symbol) → Bool
brackets None ways = true
brackets (Some k) ways = level k == 0 || (level k == 1 && all_tokens ways)

brackets_ok : (r : Rule) → brackets (kind_of r) (factored r) ≡ true
brackets_ok Document = refl
brackets_ok _ = refl

choose : (b : Bool) (x y : List Symbol) → has_token x ≡ true → has_token y ≡ true → has_token (if b then x else y) ≡ true
choose true x y p q = p
choose false x y p q = q

chosen_token : (ways : List (List Symbol)) (w : Word) → all_tokens ways ≡ true → has_token (chosen ways w) ≡ true
chosen_token [] w h = cc
chosen_token (x ∷ []) w h = h
chosen_token (x ∷ next ∷ ways) w h =
    let p = both (has_token x) (all_tokens (next ∷ ways)) h in
    choose (begins x w) x (chosen (next ∷ ways) w) p.0 (chosen_token (next ∷ ways) w p.1)

some_token : (b : Bool) (x y : List Symbol) → has_token x ≡ true → (if b then Some x else None) ≡ Some y → has_token y ≡ true
some_token true x y h e = let f : x ≡ y = cc in subst (λ (z : List Symbol). has_token z ≡ true) f h
some_token false x y h e = cc

-- the node opens no level, or one, and then the bracket comes first
abbrev OpensBy : SyntaxKind → List Symbol → Type 0
OpensBy k a = (level k ≡ 0) ⊎ ((level k ≡ 1) × (has_token a ≡ true))

either : (b c : Bool) → (b || c) ≡ true → (b ≡ true) ⊎ (c ≡ true)
either true c h = inl refl
either false c h = inr h

opens_by : (r : Rule) (k : SyntaxKind) (w : Word) (a : List Symbol) → kind_of r ≡ Some k → way r w ≡ Some a → OpensBy k a
opens_by r k w a i e =
    let ok : brackets (Some k) (factored r) ≡ true = subst (λ (o : Option SyntaxKind). brackets o (factored r) ≡ true) i (brackets_ok r) in
    elim (either (level k == 0) (level k == 1 && all_tokens (factored r)) ok) [
      | inl z ↦ inl (eqb-true (level k) 0 z)
      | inr z ↦ (let p = both (level k == 1) (all_tokens (factored r)) z in
          inr (eqb-true (level k) 1 p.0, some_token (starts r w) (chosen (factored r) w) a (chosen_token (factored r) w p.1) e))
    ]

-- ---- turns

-- no level was opened yet
abbrev IsLow : ℕ → State → Type 0
IsLow d s = (s.deepest ≡ d) × (s.level ≤ d)

abbrev Risen : ℕ → State → Type 0
Risen d s = (s.deepest ≡ max d s.level) × (s.level ≤ d + 1)

-- one was, and the word is that bracket
abbrev IsReady : ℕ → State → Type 0
IsReady d s = (has_token s.stack ≡ true) × Risen d s

abbrev Rises : ℕ → Turned → Type 0
Rises d (again s) = IsLow d s ⊎ IsReady d s
Rises d (taken s) = Risen d s
Rises d (refused s) = Unit {0}
Rises d (finished s) = Unit {0}

token-append : (a b : List Symbol) → has_token a ≡ true → has_token (a ++ b) ≡ true
token-append [] b h = cc
token-append (Token t ∷ a) b h = refl
token-append (One r ∷ a) b h = cc
token-append (Optional r ∷ a) b h = cc
token-append (Repeated r ∷ a) b h = cc
token-append (Eager r ∷ a) b h = cc
token-append (Wrap k ∷ a) b h = cc
token-append (Close k ∷ a) b h = cc

entered_rises : (k : Option SyntaxKind) (a : List Symbol) (s : State) (d : ℕ) → IsLow d s → ((j : SyntaxKind) → k ≡ Some j → OpensBy j a) → Rises d (again (entered k a s))
entered_rises None a s d low h = inl low
entered_rises (Some j) a s d low h = elim (h j refl) [
  | inl z ↦ inl (omega (arith, z, low.0, low.1), omega (arith, z, low.0, low.1))
  | inr z ↦ inr (token-append a _ z.1, (omega (arith, z.0, low.0, low.1), omega (arith, z.0, low.0, low.1)))
]

enter_rises : (found : Option (List Symbol)) (k : Option SyntaxKind) (s : State) (d : ℕ) (otherwise : Turned) → IsLow d s
    → ((j : SyntaxKind) (a : List Symbol) → k ≡ Some j → found ≡ Some a → OpensBy j a) → Rises d otherwise → Rises d (enter found k s otherwise)
enter_rises None k s d otherwise low h p = p
enter_rises (Some a) k s d otherwise low h p = entered_rises k a s d low (λ j i. h j a i refl)

token_rises : (b : Bool) (s : State) (d : ℕ) → Risen d s → Rises d (if b then taken s else refused s)
token_rises true s d h = h
token_rises false s d h = tt

low_risen : (s : State) (d : ℕ) → IsLow d s → Risen d s
low_risen s d low = (omega (arith, low.0, low.1), omega (arith, low.1))

closed_low : (k : SyntaxKind) (rows : List (List Plain)) (s : State) (d : ℕ) → IsLow d s → IsLow d (closed_in k rows s)
closed_low k [] s d low = (low.0, omega (arith, low.1))
closed_low k (outer ∷ rows) s d low = (low.0, omega (arith, low.1))

low_rises : (w : Word) (stack : List Symbol) (s : State) (d : ℕ) → IsLow d s → Rises d (turned_at (Some w) stack s)
low_rises w [] s d low = tt
low_rises w (Token t ∷ stack) s d low = token_rises (takes t w) (record s { stack = stack }) d (low_risen s d low)
low_rises w (One r ∷ stack) s d low = enter_rises (way r w) (kind_of r) _ d _ low (λ j a i e. opens_by r j w a i e) tt
low_rises w (Optional r ∷ stack) s d low = enter_rises (way r w) (kind_of r) _ d _ low (λ j a i e. opens_by r j w a i e) (inl low)
low_rises w (Eager r ∷ stack) s d low = enter_rises (way r w) (kind_of r) _ d _ low (λ j a i e. opens_by r j w a i e) (inl low)
low_rises w (Repeated r ∷ stack) s d low = enter_rises (way r w) (kind_of r) _ d _ low (λ j a i e. opens_by r j w a i e) (inl low)
low_rises w (Wrap k ∷ stack) s d low = inl low
low_rises w (Close k ∷ stack) s d low = inl (closed_low k s.rows (record s { stack = stack }) d low)

ready_rises : (w : Word) (stack : List Symbol) (s : State) (d : ℕ) → has_token stack ≡ true → Risen d s → Rises d (turned_at (Some w) stack s)
ready_rises w [] s d h p = cc
ready_rises w (Token t ∷ stack) s d h p = token_rises (takes t w) (record s { stack = stack }) d p
ready_rises w (One r ∷ stack) s d h p = cc
ready_rises w (Optional r ∷ stack) s d h p = cc
ready_rises w (Eager r ∷ stack) s d h p = cc
ready_rises w (Repeated r ∷ stack) s d h p = cc
ready_rises w (Wrap k ∷ stack) s d h p = cc
ready_rises w (Close k ∷ stack) s d h p = cc

turn_rises : (w : Word) (s : State) (d : ℕ) → IsLow d s ⊎ IsReady d s → Rises d (turned_at (Some w) s.stack s)
turn_rises w s d h = elim h [
  | inl low ↦ low_rises w s.stack s d low
  | inr ready ↦ ready_rises w s.stack s d ready.0 ready.1
]

settles_rises : (w : Word) (s : State) (d : ℕ) (end : Turned) → IsLow d s ⊎ IsReady d s → Settles (Some w) s end → Rises d end
settles_rises w s d _ h (takes_it e) = subst (λ (t : Turned). Rises d t) e (turn_rises w s d h)
settles_rises w s d _ h (refuses_it e) = tt
settles_rises w s d _ h (finishes e) = tt
settles_rises w s d end h (later {new = new} e more) =
    settles_rises w new d end (subst (λ (t : Turned). Rises d t) e (turn_rises w s d h)) more

begins_rises : (found : Option (List Symbol)) (w : Word) (s : State) (d : ℕ) (end : Turned) → IsLow d s → Begins found (Some w) s end → Rises d end
begins_rises None w s d end low e = subst (λ (t : Turned). Rises d t) (sym e) tt
begins_rises (Some a) w s d end low h = settles_rises w (pushed a s) d end (inl low) h

judges_rises : (start : Rule) (w : Word) (begun : Bool) (s : State) (d : ℕ) (end : Turned) → IsLow d s → Judges start (Some w) begun s end → Rises d end
judges_rises start w true s d end low j = settles_rises w s d end (inl low) j
judges_rises start w false s d end low j = begins_rises (way_at start (Some w)) w s d end low j

pub taken_rises : (start : Rule) (w : Word) (begun : Bool) (s new : State) → IsSound s → Judges start (Some w) begun s (taken new)
    → (new.deepest ≡ max s.deepest new.level) × (new.level ≤ s.deepest + 1)
taken_rises start w begun s new sound j =
    judges_rises start w begun s s.deepest (taken new) (refl, omega (arith, sound.level, sound.deepest, nesting_of-ended s.stack s.row s.rows sound.nodes)) j
