-- Once a rule is entered for a word, the word is taken. So a word that is refused opens no level.
use Rattle.std.proofs.Common.{◌≡◌, ◌⊎◌, inl, inr, ℕ, Bool, true, false, ◌||◌, List, [], ◌∷◌, ◌++◌, Option, Some, None, refl, sym, subst}
use Rattle.std.specs.Prelude.{if◌then◌else◌}
use Rattle.gql_grammar.specs.declared.word.Word.{Word}
use Rattle.gql_grammar.specs.declared.rule.Rule.{Rule}
use Rattle.gql_grammar.specs.declared.rule.Rule.TheVariants.{Document}
use Rattle.gql_grammar.specs.declared.symbol.Symbol.{Symbol}
use Rattle.gql_grammar.specs.declared.symbol.Symbol.TheVariants.{Token, One, Optional, Repeated, Eager, Wrap, Close}
use Rattle.gql_grammar.specs.declared.syntax_kind.SyntaxKind.{SyntaxKind}
use Rattle.gql_grammar.specs.Word.{takes}
use Rattle.gql_grammar.specs.Rule.{kind_of}
use Rattle.gql_grammar.specs.Starts.{starts, begins, chosen_way, way}
use Rattle.gql_grammar.specs.bridge.Stands.{way_at}
use Rattle.gql_grammar.proofs.Words.{every, implies}
use Rattle.gql_grammar.proofs.Ways.{implied}
use Rattle.gql_grammar.proofs.Ways.{way-some}
use Rattle.gql_cst.specs.Forest.{Plain}
use Rattle.gql_cst.specs.bridge.Machine.{State, Turned, again, taken, refused, finished, pushed, entered, closed_in, enter, turned_at, Settles, takes_it, refuses_it, finishes, later, Begins, Judges}

begins_ok : (r : Rule) → every (λ w. implies (starts r w) (begins (chosen_way r w) w)) ≡ true
begins_ok Document = refl
begins_ok _ = refl

or_true : (a b c : Bool) → (b ≡ true → c ≡ true) → (a || b) ≡ true → (a || c) ≡ true
or_true true b c f h = refl
or_true false b c f h = f h

pub begins-append : (a b : List Symbol) (w : Word) → begins a w ≡ true → begins (a ++ b) w ≡ true
begins-append [] b w h = cc
begins-append (Token t ∷ a) b w h = h
begins-append (One r ∷ a) b w h = h
begins-append (Optional r ∷ a) b w h = or_true (starts r w) _ _ (begins-append a b w) h
begins-append (Repeated r ∷ a) b w h = or_true (starts r w) _ _ (begins-append a b w) h
begins-append (Eager r ∷ a) b w h = or_true (starts r w) _ _ (begins-append a b w) h
begins-append (Wrap k ∷ a) b w h = begins-append a b w h
begins-append (Close k ∷ a) b w h = begins-append a b w h

pub way_begins : (r : Rule) (w : Word) (a : List Symbol) → way r w ≡ Some a → begins a w ≡ true
way_begins r w a h =
    let p = way-some r w a h in
    subst (λ (x : List Symbol). begins x w ≡ true) p.1 (implied (starts r) (λ v. begins (chosen_way r v) v) (begins_ok r) w p.0)

-- the word is about to be taken, or the turn opened nothing
abbrev Opens : Word → ℕ → Turned → Type 0
Opens w d (again s) = (begins s.stack w ≡ true) ⊎ (s.deepest ≡ d)
Opens w d (taken s) = Unit {0}
Opens w d (refused s) = s.deepest ≡ d
Opens w d (finished s) = s.deepest ≡ d

pub entered_begins : (k : Option SyntaxKind) (a : List Symbol) (s : State) (w : Word) → begins a w ≡ true → begins (entered k a s).stack w ≡ true
entered_begins None a s w h = begins-append a s.stack w h
entered_begins (Some k) a s w h = begins-append a _ w h

enter_opens : (found : Option (List Symbol)) (k : Option SyntaxKind) (s : State) (w : Word) (d : ℕ) (otherwise : Turned) → ((a : List Symbol) → found ≡ Some a → begins a w ≡ true)
    → Opens w d otherwise → Opens w d (enter found k s otherwise)
enter_opens None k s w d otherwise h p = p
enter_opens (Some a) k s w d otherwise h p = inl (entered_begins k a s w (h a refl))

token_opens : (b : Bool) (s : State) (w : Word) → Opens w s.deepest (if b then taken s else refused s)
token_opens true s w = tt
token_opens false s w = refl

closed_same : (k : SyntaxKind) (rows : List (List Plain)) (s : State) → (closed_in k rows s).deepest ≡ s.deepest
closed_same k [] s = refl
closed_same k (outer ∷ rows) s = refl

turn_opens : (w : Word) (stack : List Symbol) (s : State) → Opens w s.deepest (turned_at (Some w) stack s)
turn_opens w [] s = refl
turn_opens w (Token t ∷ stack) s = token_opens (takes t w) (record s { stack = stack }) w
turn_opens w (One r ∷ stack) s = enter_opens (way r w) (kind_of r) _ w s.deepest _ (way_begins r w) refl
turn_opens w (Optional r ∷ stack) s = enter_opens (way r w) (kind_of r) _ w s.deepest _ (way_begins r w) (inr refl)
turn_opens w (Eager r ∷ stack) s = enter_opens (way r w) (kind_of r) _ w s.deepest _ (way_begins r w) (inr refl)
turn_opens w (Repeated r ∷ stack) s = enter_opens (way r w) (kind_of r) _ w s.deepest _ (way_begins r w) (inr refl)
turn_opens w (Wrap k ∷ stack) s = inr refl
turn_opens w (Close k ∷ stack) s = inr (closed_same k s.rows (record s { stack = stack }))

-- a word that the stack begins with is not refused
abbrev pub Goes : Word → Turned → Type 0
Goes w (again s) = begins s.stack w ≡ true
Goes w (taken s) = Unit {0}
Goes w (refused s) = ⊥
Goes w (finished s) = ⊥

enter_goes : (found : Option (List Symbol)) (k : Option SyntaxKind) (s : State) (w : Word) (otherwise : Turned) → ((a : List Symbol) → found ≡ Some a → begins a w ≡ true)
    → (found ≡ None → Goes w otherwise) → Goes w (enter found k s otherwise)
enter_goes None k s w otherwise h p = p refl
enter_goes (Some a) k s w otherwise h p = entered_begins k a s w (h a refl)

token_goes : (b : Bool) (s : State) (w : Word) → b ≡ true → Goes w (if b then taken s else refused s)
token_goes true s w h = tt
token_goes false s w h = cc

not_none : (b : Bool) (x : List Symbol) → b ≡ true → (if b then Some x else None) ≡ None → ⊥
not_none true x h e = cc
not_none false x h e = cc

or_else : (b c : Bool) (x : List Symbol) → (b || c) ≡ true → (if b then Some x else None) ≡ None → c ≡ true
or_else true c x h e = cc
or_else false c x h e = h

closed_goes : (k : SyntaxKind) (rows : List (List Plain)) (s : State) (w : Word) → begins s.stack w ≡ true → begins (closed_in k rows s).stack w ≡ true
closed_goes k [] s w h = h
closed_goes k (outer ∷ rows) s w h = h

turn_goes : (w : Word) (stack : List Symbol) (s : State) → begins stack w ≡ true → Goes w (turned_at (Some w) stack s)
turn_goes w [] s h = cc
turn_goes w (Token t ∷ stack) s h = token_goes (takes t w) (record s { stack = stack }) w h
turn_goes w (One r ∷ stack) s h = enter_goes (way r w) (kind_of r) _ w _ (way_begins r w) (λ e. absurd (not_none (starts r w) (chosen_way r w) h e))
turn_goes w (Optional r ∷ stack) s h = enter_goes (way r w) (kind_of r) _ w _ (way_begins r w) (λ e. or_else (starts r w) _ (chosen_way r w) h e)
turn_goes w (Eager r ∷ stack) s h = enter_goes (way r w) (kind_of r) _ w _ (way_begins r w) (λ e. or_else (starts r w) _ (chosen_way r w) h e)
turn_goes w (Repeated r ∷ stack) s h = enter_goes (way r w) (kind_of r) _ w _ (way_begins r w) (λ e. or_else (starts r w) _ (chosen_way r w) h e)
turn_goes w (Wrap k ∷ stack) s h = h
turn_goes w (Close k ∷ stack) s h = closed_goes k s.rows (record s { stack = stack }) w h

pub settles_goes : (w : Word) (s : State) (end : Turned) → begins s.stack w ≡ true → Settles (Some w) s end → Goes w end
settles_goes w s _ h (takes_it e) = tt
settles_goes w s _ h (refuses_it e) = subst (λ (t : Turned). Goes w t) e (turn_goes w s.stack s h)
settles_goes w s _ h (finishes e) = subst (λ (t : Turned). Goes w t) e (turn_goes w s.stack s h)
settles_goes w s end h (later {new = new} e more) = settles_goes w new end (subst (λ (t : Turned). Goes w t) e (turn_goes w s.stack s h)) more

-- what is told of a word that is not taken
abbrev pub Closed : ℕ → Turned → Type 0
Closed d (again s) = Unit {0}
Closed d (taken s) = Unit {0}
Closed d (refused s) = s.deepest ≡ d
Closed d (finished s) = s.deepest ≡ d

of_goes : (w : Word) (d : ℕ) (end : Turned) → Goes w end → Closed d end
of_goes w d (again s) h = tt
of_goes w d (taken s) h = tt
of_goes w d (refused s) h = absurd h
of_goes w d (finished s) h = absurd h

settles_closed : (w : Word) (s : State) (end : Turned) → Settles (Some w) s end → Closed s.deepest end
settles_closed w s _ (takes_it e) = tt
settles_closed w s _ (refuses_it e) = subst (λ (t : Turned). Opens w s.deepest t) e (turn_opens w s.stack s)
settles_closed w s _ (finishes e) = subst (λ (t : Turned). Opens w s.deepest t) e (turn_opens w s.stack s)
settles_closed w s end (later {new = new} e more) =
    let o : (begins new.stack w ≡ true) ⊎ (new.deepest ≡ s.deepest) = subst (λ (t : Turned). Opens w s.deepest t) e (turn_opens w s.stack s) in
    elim o [
      | inl b ↦ of_goes w s.deepest end (settles_goes w new end b more)
      | inr d ↦ subst (λ (n : ℕ). Closed n end) d (settles_closed w new end more)
    ]

begins_closed : (found : Option (List Symbol)) (w : Word) (s : State) (end : Turned) → Begins found (Some w) s end → Closed s.deepest end
begins_closed None w s end e = subst (λ (t : Turned). Closed s.deepest t) (sym e) refl
begins_closed (Some a) w s end h = settles_closed w (pushed a s) end h

pub judges_closed : (start : Rule) (w : Word) (begun : Bool) (s : State) (end : Turned) → Judges start (Some w) begun s end → Closed s.deepest end
judges_closed start w true s end j = settles_closed w s end j
judges_closed start w false s end j = begins_closed (way_at start (Some w)) w s end j
