-- What each turn tells of the sentences that go on with the next word.
use Rattle.std.proofs.Common.{◌≡◌, ℕ, Bool, true, false, List, [], ◌∷◌, ◌++◌, map, Option, Some, None, is_some, refl, ◌∙◌, sym, ap, subst}
use Rattle.std.specs.Prelude.{if◌then◌else◌}
use Rattle.std.specs.List.{list_all}
use Rattle.gql_grammar.specs.declared.word.Word.{Word}
use Rattle.gql_grammar.specs.declared.rule.Rule.{Rule}
use Rattle.gql_grammar.specs.declared.symbol.Symbol.{Symbol}
use Rattle.gql_grammar.specs.declared.symbol.Symbol.TheVariants.{Token, One, Optional, Repeated, Eager, Wrap, Close}
use Rattle.gql_grammar.specs.declared.symbol.Terminal.{Terminal}
use Rattle.gql_grammar.specs.declared.syntax_kind.SyntaxKind.{SyntaxKind}
use Rattle.gql_grammar.specs.Word.{takes}
use Rattle.gql_grammar.specs.Rule.{kind_of}
use Rattle.gql_grammar.specs.Row as row
use Rattle.gql_grammar.specs.Row.{Row, with_leaf, with_node, joined}
use Rattle.gql_grammar.specs.Reads.{Sentence, IsBeginning}
use Rattle.gql_grammar.specs.Starts.{way}
use Rattle.gql_grammar.specs.bridge.Stands.{way_at, BetweenIn, StandsIn}
use Rattle.gql_grammar.proofs.Rooted.{none_sentence, first_refused, first_stands, look_in, taken_in, past_optional_in, past_repeated_in, past_eager_in, past_wrap_in, past_close_in, close_has_row_in, enter_tree_in, enter_group_in, into_optional_in, into_repeated_in, into_eager_in, ended_token_in, ended_rule_in, refused_token_in, refused_rule_in, refused_rest_in}
use Rattle.gql_cst.specs.Forest.{Plain}
use Rattle.gql_cst.specs.Leaves.{part_of}
use Rattle.gql_cst.specs.bridge.Machine.{State, Turned, again, taken, refused, finished, node_of, pushed, closed_in, enter, turned_at, Settles, takes_it, refuses_it, finishes, later, Begins, Judges}
use Rattle.gql_cst.specs.Sentences.{root_kind, kind_or}
use Rattle.gql_cst.specs.bridge.Sentences.{shown_of, empty, Stood}
use Rattle.gql_cst.specs.bridge.Sound.{is_node, makes_node, IsSound}
use Rattle.gql_cst.proofs.Shown.{shown_of-append, shown_of-node}
use Rattle.gql_cst.proofs.Ways.{both}
use Rattle.gql_cst.proofs.Sounds.{made, state_of, turn_keeps, pushed_keeps, along, way_at_loose, AllLoose}

-- ---- one turn

abbrev StandsAt : Rule → SyntaxKind → List ℕ → List Word → Option Word → State → Type 0
StandsAt start k text before next s = StandsIn start k before next s.stack (shown_of text s.row) (map (shown_of text) s.rows)

abbrev pub Refuses : Rule → List Word → Option Word → Type 0
Refuses start before (Some w) = IsBeginning start (before ++ (w ∷ [])) → ⊥
Refuses start before None = (f : Row) → Sentence start before f → ⊥

abbrev pub TakenAt : Rule → SyntaxKind → List ℕ → List Word → Option Word → State → Type 0
TakenAt start k text before (Some w) s = BetweenIn start k (before ++ (w ∷ [])) s.stack (with_leaf (shown_of text s.row) w) (map (shown_of text) s.rows)
TakenAt start k text before None s = ⊥

abbrev pub FinishedAt : Rule → SyntaxKind → List ℕ → List Word → Option Word → State → Type 0
FinishedAt start k text before (Some w) s = IsBeginning start (before ++ (w ∷ [])) → ⊥
FinishedAt start k text before None s = (s.stack ≡ []) × StandsIn start k before None [] (shown_of text s.row) (map (shown_of text) s.rows)

abbrev pub Verdict : Rule → SyntaxKind → List ℕ → List Word → Option Word → Turned → Type 0
Verdict start k text before next (again s) = StandsAt start k text before next s
Verdict start k text before next (taken s) = TakenAt start k text before next s
Verdict start k text before next (refused s) = Refuses start before next
Verdict start k text before next (finished s) = FinishedAt start k text before next s

enter_verdict : (start : Rule) (k : SyntaxKind) (text : List ℕ) (before : List Word) (next : Option Word) (r : Rule) (stack : List Symbol) (trees : List Plain) (rows : List (List Plain)) (l d : ℕ)
    → (w : Option (List Symbol)) → way_at r next ≡ w → (j : Option SyntaxKind) → kind_of r ≡ j → (otherwise : Turned)
    → ((a : List Symbol) → way_at r next ≡ Some a → StandsIn start k before next (One r ∷ stack) (shown_of text trees) (map (shown_of text) rows))
    → (way_at r next ≡ None → Verdict start k text before next otherwise)
    → Verdict start k text before next (enter w j (made stack trees rows l d) otherwise)
enter_verdict start k text before next r stack trees rows l d None e j i otherwise f g = g e
enter_verdict start k text before None r stack trees rows l d (Some a) e j i otherwise f g = cc
enter_verdict start k text before (Some w) r stack trees rows l d (Some a) e (Some j) i otherwise f g = enter_tree_in e i (f a e)
enter_verdict start k text before (Some w) r stack trees rows l d (Some a) e None i otherwise f g = enter_group_in e i (f a e)

token_verdict : (start : Rule) (k : SyntaxKind) (text : List ℕ) (before : List Word) (w : Word) (t : Terminal) (stack : List Symbol) (trees : List Plain) (rows : List (List Plain)) (l d : ℕ)
    → (b : Bool) → takes t w ≡ b → StandsIn start k before (Some w) (Token t ∷ stack) (shown_of text trees) (map (shown_of text) rows)
    → Verdict start k text before (Some w) (if b then taken (made stack trees rows l d) else refused (made stack trees rows l d))
token_verdict start k text before w t stack trees rows l d true e h = taken_in e h
token_verdict start k text before w t stack trees rows l d false e h = λ b. refused_token_in e h b

close_verdict : (start : Rule) (k : SyntaxKind) (text : List ℕ) (before : List Word) (next : Option Word) (j : SyntaxKind) (stack : List Symbol) (trees : List Plain) (rows : List (List Plain)) (l d : ℕ)
    → is_node (part_of j) ≡ true → StandsIn start k before next (Close j ∷ stack) (shown_of text trees) (map (shown_of text) rows)
    → StandsAt start k text before next (closed_in j rows (made stack trees rows l d))
close_verdict start k text before next j stack trees [] l d n h = close_has_row_in h
close_verdict start k text before next j stack trees (outer ∷ rows) l d n h =
    let e : shown_of text (outer ++ (node_of j trees ∷ [])) ≡ with_node (shown_of text outer) j (shown_of text trees) =
    shown_of-append text outer (node_of j trees ∷ []) ∙ ap (λ z. joined (shown_of text outer) z) (shown_of-node text j trees n) in
    subst (λ (x : Row). StandsIn start k before next stack x (map (shown_of text) rows)) (sym e) (past_close_in h)

verdict_at : (start : Rule) (k : SyntaxKind) (text : List ℕ) (before : List Word) (next : Option Word) (stack : List Symbol) (trees : List Plain) (rows : List (List Plain)) (l d : ℕ)
    → list_all makes_node stack ≡ true → StandsIn start k before next stack (shown_of text trees) (map (shown_of text) rows)
    → Verdict start k text before next (turned_at next stack (made stack trees rows l d))
verdict_at start k text before None [] trees rows l d n h = (refl, h)
verdict_at start k text before (Some w) [] trees rows l d n h = λ b. refused_rest_in h b
verdict_at start k text before None (Token t ∷ stack) trees rows l d n h = λ f s. ended_token_in h f s
verdict_at start k text before (Some w) (Token t ∷ stack) trees rows l d n h = token_verdict start k text before w t stack trees rows l d (takes t w) refl h
verdict_at start k text before None (One r ∷ stack) trees rows l d n h = λ f s. ended_rule_in h f s
verdict_at start k text before (Some w) (One r ∷ stack) trees rows l d n h =
    enter_verdict start k text before (Some w) r stack trees rows l d (way r w) refl (kind_of r) refl (refused (made stack trees rows l d)) (λ a e. h) (λ e b. refused_rule_in e h b)
verdict_at start k text before None (Optional r ∷ stack) trees rows l d n h = past_optional_in {r = r} refl h
verdict_at start k text before (Some w) (Optional r ∷ stack) trees rows l d n h =
    enter_verdict start k text before (Some w) r stack trees rows l d (way r w) refl (kind_of r) refl (again (made stack trees rows l d)) (λ a e. into_optional_in e h) (λ e. past_optional_in e h)
verdict_at start k text before None (Eager r ∷ stack) trees rows l d n h = past_eager_in {r = r} refl h
verdict_at start k text before (Some w) (Eager r ∷ stack) trees rows l d n h =
    enter_verdict start k text before (Some w) r stack trees rows l d (way r w) refl (kind_of r) refl (again (made stack trees rows l d)) (λ a e. into_eager_in e h) (λ e. past_eager_in e h)
verdict_at start k text before None (Repeated r ∷ stack) trees rows l d n h = past_repeated_in {r = r} refl h
verdict_at start k text before (Some w) (Repeated r ∷ stack) trees rows l d n h =
    enter_verdict start k text before (Some w) r (Repeated r ∷ stack) trees rows l d (way r w) refl (kind_of r) refl (again (made stack trees rows l d)) (λ a e. into_repeated_in e h) (λ e. past_repeated_in e h)
verdict_at start k text before next (Wrap j ∷ stack) trees rows l d n h =
    subst (λ (x : Row). StandsIn start k before next stack x (map (shown_of text) rows)) (sym (shown_of-node text j trees (both _ _ (both _ _ n).0).0)) (past_wrap_in h)
verdict_at start k text before next (Close j ∷ stack) trees rows l d n h = close_verdict start k text before next j stack trees rows l d (both _ _ n).0 h

-- ---- all turns up to a word

settles_verdict : (start : Rule) (k : SyntaxKind) (text : List ℕ) (before : List Word) (next : Option Word) (s : State) (end : Turned) → IsSound s
    → StandsAt start k text before next s → Settles next s end → Verdict start k text before next end
settles_verdict start k text before next s _ sound h (takes_it e) =
    subst (λ (t : Turned). Verdict start k text before next t) e (verdict_at start k text before next s.stack s.row s.rows s.level s.deepest sound.nodes h)
settles_verdict start k text before next s _ sound h (refuses_it e) =
    subst (λ (t : Turned). Verdict start k text before next t) e (verdict_at start k text before next s.stack s.row s.rows s.level s.deepest sound.nodes h)
settles_verdict start k text before next s _ sound h (finishes e) =
    subst (λ (t : Turned). Verdict start k text before next t) e (verdict_at start k text before next s.stack s.row s.rows s.level s.deepest sound.nodes h)
settles_verdict start k text before next s end sound h (later {new = new} e more) =
    let v : StandsAt start k text before next new =
    subst (λ (t : Turned). Verdict start k text before next t) e (verdict_at start k text before next s.stack s.row s.rows s.level s.deepest sound.nodes h) in
    let p = along s _ _ (ap state_of (sym e)) (turn_keeps next s sound) in
    settles_verdict start k text before next new end p.sound v more

starts_with : (start : Rule) → is_some (kind_of start) ≡ true → kind_of start ≡ Some (root_kind start)
starts_with start h = some_of (kind_of start) h
  where
    some_of : (k : Option SyntaxKind) → is_some k ≡ true → k ≡ Some (kind_or k)
    some_of (Some k) h = refl
    some_of None h = cc

begins_verdict : (start : Rule) (text : List ℕ) (next : Option Word) (end : Turned) (found : Option (List Symbol)) → way_at start next ≡ found → is_some (kind_of start) ≡ true
    → AllLoose found → IsSound empty → Begins found next empty end → Verdict start (root_kind start) text [] next end
begins_verdict start text None end None e h loose sound b = subst (λ (t : Turned). Verdict start (root_kind start) text [] None t) (sym b) (λ f s. none_sentence start h f s)
begins_verdict start text (Some w) end None e h loose sound b =
    subst (λ (t : Turned). Verdict start (root_kind start) text [] (Some w) t) (sym b) (λ c. first_refused start w h e c)
begins_verdict start text None end (Some a) e h loose sound b = cc
begins_verdict start text (Some w) end (Some a) e h loose sound b =
    let first : StandsIn start (root_kind start) [] (Some w) (a ++ []) row.nothing [] =
    subst (λ (ss : List Symbol). StandsIn start (root_kind start) [] (Some w) ss row.nothing []) (sym (end-nil a)) (first_stands start w h (starts_with start h) e) in
    settles_verdict start (root_kind start) text [] (Some w) (pushed a empty) end (pushed_keeps a empty loose sound).sound first b
  where
    end-nil : (xs : List Symbol) → xs ++ [] ≡ xs
    end-nil [] = refl
    end-nil (x ∷ xs) = ap (λ ys. x ∷ ys) (end-nil xs)

-- the words before begin a sentence, and this is what the next one tells
pub judges_verdict : (start : Rule) (text : List ℕ) (next : Option Word) (begun : Bool) (s : State) (before : List Word) (end : Turned) → is_some (kind_of start) ≡ true
    → IsSound s → Stood start text begun s before → Judges start next begun s end → Verdict start (root_kind start) text before next end
judges_verdict start text next true s before end h sound stood j = settles_verdict start (root_kind start) text before next s end sound (look_in stood next) j
judges_verdict start text next false s before end h sound stood j =
    let sound2 = subst (λ (x : State). IsSound x) stood.0 sound in
    let j2 = subst (λ (x : State). Begins (way_at start next) next x end) stood.0 j in
    subst (λ (ws : List Word). Verdict start (root_kind start) text ws next end) (sym stood.1)
    (begins_verdict start text next end (way_at start next) refl h (way_at_loose start next) sound2 j2)
