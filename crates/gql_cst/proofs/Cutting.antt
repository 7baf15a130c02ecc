-- Wherever a parser stops, its trees are those of a sentence, cut behind the words that were read.
use Rattle.std.proofs.Common.{◌≡◌, ◌⊎◌, inl, inr, ℕ, ◌+◌, Bool, true, false, List, [], ◌∷◌, ◌++◌, map, length, Option, Some, None, is_some, refl, ◌∙◌, sym, ap, subst, arith, length-append}
use Rattle.std.specs.Prelude.{if◌then◌else◌}
use Rattle.std.specs.List.{list_all}
use Rattle.gql_grammar.specs.declared.word.Word.{Word}
use Rattle.gql_grammar.specs.declared.rule.Rule.{Rule}
use Rattle.gql_grammar.specs.declared.symbol.Symbol.{Symbol}
use Rattle.gql_grammar.specs.declared.symbol.Symbol.TheVariants.{Token, One, Optional, Repeated, Eager, Wrap, Close}
use Rattle.gql_grammar.specs.declared.syntax_kind.SyntaxKind.{SyntaxKind}
use Rattle.gql_grammar.specs.bridge.Ends as stack_ends
use Rattle.gql_grammar.specs.bridge.Ends.{Ends, symbol, close, closes}
use Rattle.gql_grammar.specs.Factored.{factored}
use Rattle.gql_grammar.specs.Reads.{Reads, Sentence, done, wrap}
use Rattle.gql_grammar.specs.Row as row
use Rattle.gql_grammar.specs.Row.{Row, joined, with_node}
use Rattle.gql_grammar.specs.Rule.{kind_of}
use Rattle.gql_grammar.specs.Sentence as fits
use Rattle.gql_grammar.specs.bridge.Stands.{way_at, rooted, around}
use Rattle.gql_grammar.specs.Starts.{begins}
use Rattle.gql_grammar.proofs.Rooted.{closes-more, none_beginning}
use Rattle.gql_grammar.proofs.Samples.{endable}
use Rattle.gql_grammar.proofs.Turns.{Sentence-from}
use Rattle.gql_cst.specs.Cut.{is_filled, Cuts, behind, IsCut}
use Rattle.gql_cst.specs.Forest.{Plain}
use Rattle.gql_cst.specs.bridge.Judged.{IsFilled}
use Rattle.gql_cst.specs.Late.{is_late}
use Rattle.gql_cst.specs.Leaves.{part_of}
use Rattle.gql_cst.specs.bridge.Machine.{State, Turned, again, taken, refused, finished, Settles, takes_it, refuses_it, finishes, later, Begins, Judges, node_of, pushed, entered, enter, takes_at, turned_at, closed_in, ended, all_ended}
use Rattle.gql_cst.specs.Sentences.{root_kind, kind_or}
use Rattle.gql_cst.specs.bridge.Sentences.{shown_of, empty, Stood}
use Rattle.gql_cst.specs.bridge.Sound.{is_node, makes_node, IsSound}
use Rattle.gql_cst.proofs.Opening.{way_begins, begins-append, entered_begins, Goes, settles_goes}
use Rattle.gql_cst.proofs.Cuts.{whole, Leads, then_leads, leads-node, makes_late, reads-leads, filled_node, reads-filled, up-leads}
use Rattle.gql_cst.proofs.Deeper.{up}
use Rattle.gql_cst.proofs.Shown.{shown_of-append, shown_of-node}
use Rattle.gql_cst.proofs.Sounds.{made, state_of, turn_keeps, settles_keep, along}
use Rattle.gql_cst.proofs.Ways.{both}

-- ---- the machine's trees as a row

shown-outer : (text : List ℕ) (j : SyntaxKind) (outer trees : List Plain) → is_node (part_of j) ≡ true
    → shown_of text (outer ++ (node_of j trees ∷ [])) ≡ with_node (shown_of text outer) j (shown_of text trees)
shown-outer text j outer trees h = shown_of-append text outer (node_of j trees ∷ []) ∙ ap (λ z. joined (shown_of text outer) z) (shown_of-node text j trees h)

shown-ended : (text : List ℕ) (stack : List Symbol) (trees : List Plain) (rows : List (List Plain)) → list_all makes_node stack ≡ true
    → shown_of text (ended stack trees rows) ≡ up stack (shown_of text trees) (map (shown_of text) rows)
shown-ended text [] trees rows h = refl
shown-ended text (Close j ∷ stack) trees [] h =
    let p = both _ _ h in
    shown-ended text stack (node_of j trees ∷ []) [] p.1 ∙ ap (λ x. up stack x []) (shown_of-node text j trees p.0)
shown-ended text (Close j ∷ stack) trees (outer ∷ rows) h =
    let p = both _ _ h in
    shown-ended text stack (outer ++ (node_of j trees ∷ [])) rows p.1 ∙ ap (λ x. up stack x (map (shown_of text) rows)) (shown-outer text j outer trees p.0)
shown-ended text (Wrap j ∷ stack) trees rows h = shown-ended text stack trees rows (both _ _ h).1
shown-ended text (Token t ∷ stack) trees rows h = shown-ended text stack trees rows h
shown-ended text (One r ∷ stack) trees rows h = shown-ended text stack trees rows h
shown-ended text (Optional r ∷ stack) trees rows h = shown-ended text stack trees rows h
shown-ended text (Repeated r ∷ stack) trees rows h = shown-ended text stack trees rows h
shown-ended text (Eager r ∷ stack) trees rows h = shown-ended text stack trees rows h

all_late : (ss : List Symbol) → list_all makes_node ss ≡ true → list_all makes_late ss ≡ true
all_late [] h = refl
all_late (Close j ∷ ss) h = all_late ss (both (is_node (part_of j)) _ h).1
all_late (Wrap j ∷ ss) h =
    let p = both _ (list_all makes_node ss) h in
    let late = (both _ (is_late j) (both (is_node (part_of j)) _ p.0).1).1 in
    let more = all_late ss p.1 in
    rw (late, more) refl
all_late (Token t ∷ ss) h = all_late ss h
all_late (One r ∷ ss) h = all_late ss h
all_late (Optional r ∷ ss) h = all_late ss h
all_late (Repeated r ∷ ss) h = all_late ss h
all_late (Eager r ∷ ss) h = all_late ss h

-- ---- a stack makes of further words a row that its own is cut of

abbrev Roots : SyntaxKind → Row → Row → Type 0
Roots k out x = (full : Row) × ((out ≡ row.node k full row.nothing) × Cuts x full)

then_roots : (k : SyntaxKind) (out x y : Row) → Leads x y → Roots k out y → Roots k out x
then_roots k out x y lead r = (r.0, (r.1.0, lead r.0 r.1.1))

ends_cut : (ss : List Symbol) (x : Row) (rows : List Row) (k : SyntaxKind) {ws : List Word} {out : Row} → list_all makes_late ss ≡ true → closes ss ≡ length rows → is_filled x ≡ true
    → Ends (rooted k ss) x (around rows) ws out → Roots k out (up ss x rows)
ends_cut [] x [] k h e some (close j stack_ends.end) = (x, (refl, whole x))
ends_cut [] x [] k h e some (symbol d m) = elim d [ ]
ends_cut [] x (y ∷ rows) k h e some m = absurd (omega (arith, e))
ends_cut (Close j ∷ ss) x [] k h e some m = absurd (omega (arith, e))
ends_cut (Close j ∷ ss) x (outer ∷ rows) k h e some (close i m) = ends_cut ss (with_node outer j x) rows k h (omega (arith, e)) (filled_node outer j x) m
ends_cut (Close j ∷ ss) x (outer ∷ rows) k h e some (symbol d m) = elim d [ ]
ends_cut (Token t ∷ ss) x rows k h e some (symbol {z = z} d m) = then_roots k _ _ _ (up-leads ss x z rows some (reads-leads d refl)) (ends_cut ss z rows k h e (reads-filled d some) m)
ends_cut (One r ∷ ss) x rows k h e some (symbol {z = z} d m) = then_roots k _ _ _ (up-leads ss x z rows some (reads-leads d refl)) (ends_cut ss z rows k h e (reads-filled d some) m)
ends_cut (Optional r ∷ ss) x rows k h e some (symbol {z = z} d m) = then_roots k _ _ _ (up-leads ss x z rows some (reads-leads d refl)) (ends_cut ss z rows k h e (reads-filled d some) m)
ends_cut (Repeated r ∷ ss) x rows k h e some (symbol {z = z} d m) = then_roots k _ _ _ (up-leads ss x z rows some (reads-leads d refl)) (ends_cut ss z rows k h e (reads-filled d some) m)
ends_cut (Eager r ∷ ss) x rows k h e some (symbol {z = z} d m) = then_roots k _ _ _ (up-leads ss x z rows some (reads-leads d refl)) (ends_cut ss z rows k h e (reads-filled d some) m)
ends_cut (Wrap j ∷ ss) x rows k h e some (symbol {z = z} d m) =
    let p = both (is_late j) _ h in
    let one : list_all makes_late (Wrap j ∷ []) ≡ true = rw p.0 refl in
    then_roots k _ _ _ (up-leads ss x z rows some (reads-leads d one)) (ends_cut ss z rows k p.1 e (reads-filled d some) m)

-- ---- between words

abbrev pub CutAt : Rule → List ℕ → List Word → State → Type 0
CutAt start text before s = IsCut start before (shown_of text (all_ended s))

cut_from : (start : Rule) (text : List ℕ) (before more : List Word) (out : Row) (s : State) → IsSound s → Sentence start (before ++ more) out
    → Roots (root_kind start) out (up s.stack (shown_of text s.row) (map (shown_of text) s.rows)) → CutAt start text before s
cut_from start text before more out s sound d r = record {
  more = more;
  full = r.0;
  sentence = subst (λ (o : Row). Sentence start (before ++ more) o) r.1.0 d;
  cuts = subst (λ (x : Row). Cuts x r.0) (sym (shown-ended text s.stack s.row s.rows sound.nodes)) r.1.1;
}

sentence_node : (start : Rule) {ws : List Word} {out : Row} → is_some (kind_of start) ≡ true → Sentence start ws out → (full : Row) × (out ≡ row.node (root_kind start) full row.nothing)
sentence_node start h (fits.tree {inner = inner} r k way is m f fits.done) = (inner, ap (λ j. row.node (kind_or j) inner row.nothing) (sym is))
sentence_node start h (fits.group r way is m f) = let no : is_some (kind_of start) ≡ false = ap is_some is in cc

cut_empty : (start : Rule) (text : List ℕ) → is_some (kind_of start) ≡ true → CutAt start text [] empty
cut_empty start text h =
    let (more, out, d) = none_beginning start h in
    let n = sentence_node start h d in
    record { more = more; full = n.0; sentence = subst (λ (o : Row). Sentence start more o) n.1 d; cuts = behind }

-- a stack may be behind the one that makes the sentence by what it passed over
record Ahead (k : SyntaxKind) (out : Row) (ss : List Symbol) (x : Row) (rows : List Row) : Type 0 where
  balanced : closes ss ≡ length rows
  ahead : Row
  ws : List Word
  ends : Ends (rooted k ss) ahead (around rows) ws out
  leads : Leads x ahead
  filled : is_filled x ≡ true
  filled_ahead : is_filled ahead ≡ true

abbrev AheadAt : SyntaxKind → Row → List ℕ → State → Type 0
AheadAt k out text s = Ahead k out s.stack (shown_of text s.row) (map (shown_of text) s.rows)

-- a sentence that goes on from there
record GoesOn (start : Rule) (text : List ℕ) (before : List Word) (s : State) : Type 0 where
  more : List Word
  out : Row
  sentence : Sentence start (before ++ more) out
  ahead : AheadAt (root_kind start) out text s

stood_goal : (start : Rule) (text : List ℕ) (s : State) (before : List Word) → is_some (kind_of start) ≡ true → is_filled (shown_of text s.row) ≡ true → Stood start text true s before → GoesOn start text before s
stood_goal start text s before h some stood =
    let k = root_kind start in
    let x = shown_of text s.row in
    let rows = map (shown_of text) s.rows in
    let b = stood.between in
    let sample = endable (rooted k s.stack) in
    let found = sample.1 x (around rows) b.balanced in
    let even : closes (s.stack ++ (Close k ∷ [])) ≡ length (rows ++ (row.nothing ∷ [])) = b.balanced in
    let more : closes (s.stack ++ (Close k ∷ [])) ≡ closes s.stack + 1 = closes-more s.stack (Close k ∷ []) in
    record {
      more = sample.0;
      out = found.0;
      sentence = Sentence-from h (b.back sample.0 found.0 found.1);
      ahead = record { balanced = omega (arith, even, more, length-append rows (row.nothing ∷ [])); ahead = x; ws = sample.0; ends = found.1; leads = λ full c. c; filled = some; filled_ahead = some };
    }

ahead_cut : (start : Rule) (text : List ℕ) (before more : List Word) (out : Row) (s : State) → IsSound s → Sentence start (before ++ more) out
    → AheadAt (root_kind start) out text s → CutAt start text before s
ahead_cut start text before more out s sound d a =
    let rows = map (shown_of text) s.rows in
    cut_from start text before more out s sound d
    (then_roots (root_kind start) out _ _ (up-leads s.stack (shown_of text s.row) a.ahead rows a.filled a.leads)
    (ends_cut s.stack a.ahead rows (root_kind start) (all_late s.stack sound.nodes) a.balanced a.filled_ahead a.ends))

pub stood_cut : (start : Rule) (text : List ℕ) (begun : Bool) (s : State) (before : List Word) → is_some (kind_of start) ≡ true → IsSound s → IsFilled begun text s
    → Stood start text begun s before → CutAt start text before s
stood_cut start text true s before h sound some stood =
    let g = stood_goal start text s before h some stood in
    ahead_cut start text before g.more g.out s sound g.sentence g.ahead
stood_cut start text false s before h sound some stood =
    subst (λ (ws : List Word). CutAt start text ws s) (sym stood.1) (subst (λ (t : State). CutAt start text [] t) (sym stood.0) (cut_empty start text h))

-- ---- one turn that opens nothing

abbrev Read : Symbol → List Symbol → Row → List Row → List Word → Row → Type 0
Read s ss x rows ws out = (y : Row) × (us : List Word) × (Reads factored (s ∷ []) x ws y us × Ends ss y rows us out)

read_symbol : (s : Symbol) (ss : List Symbol) (x : Row) (rows : List Row) {ws : List Word} {out : Row} → closes (s ∷ []) ≡ 0 → Ends (s ∷ ss) x rows ws out → Read s ss x rows ws out
read_symbol s ss x rows h (symbol d e) = (_, _, (d, e))
read_symbol s ss x rows h (close k e) = absurd (omega (arith, h))

past : (k : SyntaxKind) (out : Row) (s : Symbol) (ss : List Symbol) (x : Row) (rows : List Row) → list_all makes_late (s ∷ []) ≡ true → closes (s ∷ []) ≡ 0 → closes (s ∷ ss) ≡ closes ss
    → Ahead k out (s ∷ ss) x rows → Ahead k out ss x rows
past k out s ss x rows late apart same a =
    let (y, us, found) = read_symbol s (rooted k ss) a.ahead (around rows) apart a.ends in
    record { balanced = sym same ∙ a.balanced; ahead = y; ws = us; ends = found.1; leads = then_leads x a.ahead y a.leads (reads-leads found.0 late); filled = a.filled; filled_ahead = reads-filled found.0 a.filled_ahead }

wrap_read : {j : SyntaxKind} {x y : Row} {ws us : List Word} → Reads factored (Wrap j ∷ []) x ws y us → y ≡ row.node j x row.nothing
wrap_read (wrap j done) = refl

past_wrap : (k : SyntaxKind) (out : Row) (j : SyntaxKind) (ss : List Symbol) (x : Row) (rows : List Row) → Ahead k out (Wrap j ∷ ss) x rows → Ahead k out ss (row.node j x row.nothing) rows
past_wrap k out j ss x rows a =
    let (y, us, found) = read_symbol (Wrap j) (rooted k ss) a.ahead (around rows) refl a.ends in
    let lead = leads-node row.nothing j x a.ahead a.filled a.leads in
    record { balanced = a.balanced; ahead = y; ws = us; ends = found.1; leads = subst (λ (u : Row). Leads (row.node j x row.nothing) u) (sym (wrap_read found.0)) lead; filled = refl; filled_ahead = reads-filled found.0 a.filled_ahead }

close_read : {j : SyntaxKind} {ss : List Symbol} {x outer : Row} {rows : List Row} {ws : List Word} {out : Row} → Ends (Close j ∷ ss) x (outer ∷ rows) ws out
    → Ends ss (with_node outer j x) rows ws out
close_read (close j e) = e
close_read (symbol d e) = elim d [ ]

past_close : (k : SyntaxKind) (out : Row) (j : SyntaxKind) (ss : List Symbol) (x outer : Row) (rows : List Row) → Ahead k out (Close j ∷ ss) x (outer ∷ rows)
    → Ahead k out ss (with_node outer j x) rows
past_close k out j ss x outer rows a = record {
  balanced = omega (arith, a.balanced);
  ahead = with_node outer j a.ahead;
  ws = a.ws;
  ends = close_read a.ends;
  leads = leads-node outer j x a.ahead a.filled a.leads;
  filled = filled_node outer j x;
  filled_ahead = filled_node outer j a.ahead;
}

-- ---- the machine's turns

-- the next word is about to be taken
abbrev IsBegun : Option Word → List Symbol → Type 0
IsBegun (Some w) stack = begins stack w ≡ true
IsBegun None stack = ⊥

abbrev TurnedAhead : SyntaxKind → Row → List ℕ → Option Word → Turned → Type 0
TurnedAhead k out text next (again s) = IsBegun next s.stack ⊎ AheadAt k out text s
TurnedAhead k out text next (taken s) = Unit {0}
TurnedAhead k out text next (refused s) = AheadAt k out text s
TurnedAhead k out text next (finished s) = AheadAt k out text s

entered_at : (next : Option Word) (r : Rule) (a : List Symbol) (kind : Option SyntaxKind) (s : State) → way_at r next ≡ Some a → IsBegun next (entered kind a s).stack
entered_at None r a kind s e = cc
entered_at (Some w) r a kind s e = entered_begins kind a s w (way_begins r w a e)

enter_ahead : (k : SyntaxKind) (out : Row) (text : List ℕ) (next : Option Word) (r : Rule) (found : Option (List Symbol)) → way_at r next ≡ found → (kind : Option SyntaxKind) (s : State) (otherwise : Turned)
    → TurnedAhead k out text next otherwise → TurnedAhead k out text next (enter found kind s otherwise)
enter_ahead k out text next r None e kind s otherwise p = p
enter_ahead k out text next r (Some a) e kind s otherwise p = inl (entered_at next r a kind s e)

token_ahead : (k : SyntaxKind) (out : Row) (text : List ℕ) (next : Option Word) (b : Bool) (s : State) → AheadAt k out text s → TurnedAhead k out text next (if b then taken s else refused s)
token_ahead k out text next true s a = tt
token_ahead k out text next false s a = a

close_ahead : (k : SyntaxKind) (out : Row) (text : List ℕ) (j : SyntaxKind) (stack : List Symbol) (trees : List Plain) (rows : List (List Plain)) (l d : ℕ) → is_node (part_of j) ≡ true
    → AheadAt k out text (made (Close j ∷ stack) trees rows l d) → AheadAt k out text (closed_in j rows (made stack trees rows l d))
close_ahead k out text j stack trees [] l d n a = absurd (omega (arith, a.balanced))
close_ahead k out text j stack trees (outer ∷ rows) l d n a =
    subst (λ (x : Row). Ahead k out stack x (map (shown_of text) rows)) (sym (shown-outer text j outer trees n))
    (past_close k out j stack (shown_of text trees) (shown_of text outer) (map (shown_of text) rows) a)

turn_ahead : (k : SyntaxKind) (out : Row) (text : List ℕ) (next : Option Word) (stack : List Symbol) (trees : List Plain) (rows : List (List Plain)) (l d : ℕ) → list_all makes_node stack ≡ true
    → AheadAt k out text (made stack trees rows l d) → TurnedAhead k out text next (turned_at next stack (made stack trees rows l d))
turn_ahead k out text next [] trees rows l d n a = a
turn_ahead k out text next (Token t ∷ stack) trees rows l d n a =
    token_ahead k out text next (takes_at t next) (made stack trees rows l d) (past k out (Token t) stack (shown_of text trees) (map (shown_of text) rows) refl refl refl a)
turn_ahead k out text next (One r ∷ stack) trees rows l d n a =
    enter_ahead k out text next r (way_at r next) refl (kind_of r) (made stack trees rows l d) (refused (made stack trees rows l d))
    (past k out (One r) stack (shown_of text trees) (map (shown_of text) rows) refl refl refl a)
turn_ahead k out text next (Optional r ∷ stack) trees rows l d n a =
    enter_ahead k out text next r (way_at r next) refl (kind_of r) (made stack trees rows l d) (again (made stack trees rows l d))
    (inr (past k out (Optional r) stack (shown_of text trees) (map (shown_of text) rows) refl refl refl a))
turn_ahead k out text next (Eager r ∷ stack) trees rows l d n a =
    enter_ahead k out text next r (way_at r next) refl (kind_of r) (made stack trees rows l d) (again (made stack trees rows l d))
    (inr (past k out (Eager r) stack (shown_of text trees) (map (shown_of text) rows) refl refl refl a))
turn_ahead k out text next (Repeated r ∷ stack) trees rows l d n a =
    enter_ahead k out text next r (way_at r next) refl (kind_of r) (made (Repeated r ∷ stack) trees rows l d) (again (made stack trees rows l d))
    (inr (past k out (Repeated r) stack (shown_of text trees) (map (shown_of text) rows) refl refl refl a))
turn_ahead k out text next (Wrap j ∷ stack) trees rows l d n a =
    inr (subst (λ (x : Row). Ahead k out stack x (map (shown_of text) rows)) (sym (shown_of-node text j trees (both _ _ (both _ _ n).0).0))
    (past_wrap k out j stack (shown_of text trees) (map (shown_of text) rows) a))
turn_ahead k out text next (Close j ∷ stack) trees rows l d n a = inr (close_ahead k out text j stack trees rows l d (both _ _ n).0 a)

abbrev Still : SyntaxKind → Row → List ℕ → Turned → Type 0
Still k out text (again s) = Unit {0}
Still k out text (taken s) = Unit {0}
Still k out text (refused s) = AheadAt k out text s
Still k out text (finished s) = AheadAt k out text s

goes_still : (k : SyntaxKind) (out : Row) (text : List ℕ) (w : Word) (end : Turned) → Goes w end → Still k out text end
goes_still k out text w (again s) h = tt
goes_still k out text w (taken s) h = tt
goes_still k out text w (refused s) h = absurd h
goes_still k out text w (finished s) h = absurd h

begun_still : (k : SyntaxKind) (out : Row) (text : List ℕ) (next : Option Word) (s : State) (end : Turned) → IsBegun next s.stack → Settles next s end → Still k out text end
begun_still k out text None s end b h = absurd b
begun_still k out text (Some w) s end b h = goes_still k out text w end (settles_goes w s end b h)

settles_still : (k : SyntaxKind) (out : Row) (text : List ℕ) (next : Option Word) (s : State) (end : Turned) → IsSound s → AheadAt k out text s → Settles next s end → Still k out text end
settles_still k out text next s _ sound a (takes_it e) = tt
settles_still k out text next s _ sound a (refuses_it e) =
    subst (λ (t : Turned). TurnedAhead k out text next t) e (turn_ahead k out text next s.stack s.row s.rows s.level s.deepest sound.nodes a)
settles_still k out text next s _ sound a (finishes e) =
    subst (λ (t : Turned). TurnedAhead k out text next t) e (turn_ahead k out text next s.stack s.row s.rows s.level s.deepest sound.nodes a)
settles_still k out text next s end sound a (later {new = new} e more) =
    let o : IsBegun next new.stack ⊎ AheadAt k out text new =
    subst (λ (t : Turned). TurnedAhead k out text next t) e (turn_ahead k out text next s.stack s.row s.rows s.level s.deepest sound.nodes a) in
    let kept = along s _ _ (ap state_of (sym e)) (turn_keeps next s sound) in
    elim o [
      | inl b ↦ begun_still k out text next new end b more
      | inr b ↦ settles_still k out text next new end kept.sound b more
    ]

-- ---- a word, or the end of the text, that was not taken

abbrev pub CutTold : Rule → List ℕ → List Word → Turned → Type 0
CutTold start text before (again s) = Unit {0}
CutTold start text before (taken s) = Unit {0}
CutTold start text before (refused s) = CutAt start text before s
CutTold start text before (finished s) = CutAt start text before s

still_cut : (start : Rule) (text : List ℕ) (before more : List Word) (out : Row) (end : Turned) → IsSound (state_of end) → Sentence start (before ++ more) out
    → Still (root_kind start) out text end → CutTold start text before end
still_cut start text before more out (again s) sound d a = tt
still_cut start text before more out (taken s) sound d a = tt
still_cut start text before more out (refused s) sound d a = ahead_cut start text before more out s sound d a
still_cut start text before more out (finished s) sound d a = ahead_cut start text before more out s sound d a

goes_cut : (start : Rule) (text : List ℕ) (before : List Word) (w : Word) (end : Turned) → Goes w end → CutTold start text before end
goes_cut start text before w (again s) h = tt
goes_cut start text before w (taken s) h = tt
goes_cut start text before w (refused s) h = absurd h
goes_cut start text before w (finished s) h = absurd h

begins_cut : (start : Rule) (text : List ℕ) (next : Option Word) (found : Option (List Symbol)) → way_at start next ≡ found → (s : State) (before : List Word) (end : Turned)
    → CutAt start text before s → Begins found next s end → CutTold start text before end
begins_cut start text next None e s before end c h = subst (λ (t : Turned). CutTold start text before t) (sym h) c
begins_cut start text None (Some a) e s before end c h = cc
begins_cut start text (Some w) (Some a) e s before end c h =
    goes_cut start text before w end (settles_goes w (pushed a s) end (begins-append a s.stack w (way_begins start w a e)) h)

pub judges_cut : (start : Rule) (text : List ℕ) (next : Option Word) (begun : Bool) (s : State) (before : List Word) (end : Turned) → is_some (kind_of start) ≡ true → IsSound s → IsFilled begun text s
    → Stood start text begun s before → Judges start next begun s end → CutTold start text before end
judges_cut start text next true s before end h sound some stood j =
    let g = stood_goal start text s before h some stood in
    still_cut start text before g.more g.out end (settles_keep next s end sound j).sound g.sentence (settles_still (root_kind start) g.out text next s end sound g.ahead j)
judges_cut start text next false s before end h sound some stood j =
    begins_cut start text next (way_at start next) refl s before end (stood_cut start text false s before h sound some stood) j
