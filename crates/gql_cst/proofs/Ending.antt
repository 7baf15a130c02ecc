-- A parser that goes on by a token, or stops.
use Rattle.std.proofs.Common.{◌≡◌, ℕ, ◌+◌, inl, inr, Bool, true, false, List, [], ◌∷◌, ◌++◌, length, Option, Some, None, refl, ◌∙◌, sym, ap, subst, arith, length-append}
use Rattle.std.specs.declared.ops.Range.{Range}
use Rattle.gql_lexer.specs.declared.error.CstError.{CstError}
use Rattle.gql_lexer.specs.declared.error.CstError.TheVariants.{Syntax, RecursionLimit}
use Rattle.gql_lexer.specs.declared.error.SyntaxFault.TheVariants.{EndOfText, BadToken}
use Rattle.gql_grammar.specs.declared.word.Word.{Word}
use Rattle.gql_grammar.specs.declared.rule.Rule.{Rule}
use Rattle.gql_grammar.specs.declared.syntax_kind.SyntaxKind.TheVariants as kind
use Rattle.gql_cst.specs.declared.turn.Turn.{Turn}
use Rattle.gql_cst.specs.declared.turn.Turn.TheVariants as turn
use Rattle.gql_cst.specs.bridge.Standing.{Standing}
use Rattle.gql_cst.specs.Forest.{Plain, nothing}
use Rattle.gql_grammar.specs.declared.syntax_kind.SyntaxKind.{SyntaxKind}
use Rattle.gql_cst.specs.Leaves.{Part, word, ignored, node, part_of, Leaf, IsLeaf}
use Rattle.gql_cst.specs.bridge.Leaves.{leaves_of}
use Rattle.gql_cst.specs.bridge.Nesting.{nesting_of}
use Rattle.gql_grammar.specs.declared.symbol.Symbol.{Symbol}
use Rattle.gql_grammar.specs.declared.symbol.Symbol.TheVariants.{Token, One, Optional, Repeated, Eager, Wrap, Close}
use Rattle.gql_cst.specs.bridge.Machine.{State, Turned, closed_in, turned_at, Settles, takes_it, refuses_it, finishes, later, Judges, told, grown}
use Rattle.gql_cst.specs.bridge.Sound.{is_node, IsSound}
use Rattle.gql_cst.specs.Spans.{Spans, AllSpanIn}
use Rattle.gql_cst.specs.Outcome.{IsWithin}
use Rattle.gql_cst.specs.bridge.Progress.{IsRead, IsUnderway, HasStopped, word_leaf}
use Rattle.gql_cst.proofs.Rows.{nesting_of-append}
use Rattle.gql_cst.proofs.Spans.{spans-append}
use Rattle.gql_cst.proofs.Sounds.{Keeps, state_of, along, judges_keep, grown_keeps}
use Rattle.gql_cst.proofs.Held.{held, tiles-then, held-keeps, held-ignored, held-grown}

pub state_of-told : (t : Turn) (s : State) → state_of (told t s) ≡ s
state_of-told turn.Again s = refl
state_of-told turn.Taken s = refl
state_of-told turn.Refused s = refl
state_of-told turn.Finished s = refl

pub keeps_told : (start : Rule) (next : Option Word) (begun : Bool) (t : Turn) (s new : State) → IsSound s → Judges start next begun s (told t new) → Keeps s new
keeps_told start next begun t s new h j = along s new _ (sym (state_of-told t new)) (judges_keep start next begun s (told t new) h j)

pub limit_stops : (p : Standing) (range : Range ℕ) → IsUnderway p range.start → IsLeaf p.text range.start (word_leaf range)
    → HasStopped p range.start (Some (RecursionLimit range))
limit_stops p range h l = record {
  tiles = h.tiles;
  sound = h.sound;
  flat = h.flat;
  spans = h.spans;
  stops = (inr (l, h.counted), h.within);
}

pub limit_ends : (p : Standing) → IsRead p (length p.text)
    → HasStopped p (length p.text) (Some (RecursionLimit (record { start = length p.text; end = length p.text })))
limit_ends p h = record {
  tiles = h.tiles;
  sound = h.sound;
  flat = h.flat;
  spans = h.spans;
  stops = (inl ((refl, refl, refl), h.counted), h.within);
}

-- a word was judged
pub judged : (p : Standing) (m : State) (b : Bool) (t : Turn) (next : Option Word) (place : ℕ) → IsUnderway p place
    → Judges p.start next p.begun p.state (told t m) → IsUnderway (record p { state = m; begun = b }) place
judged p m b t next place h j =
    let k = keeps_told p.start next p.begun t p.state m h.sound j in
    let e = held-keeps p.state m p.ignored k in
    record { tiles = rw e h.tiles; counted = rw e h.counted; within = h.within; sound = k.sound; flat = h.flat; spans = h.spans }

pub judged_end : (p : Standing) (m : State) (b : Bool) (t : Turn) (place : ℕ) → IsRead p place
    → Judges p.start None p.begun p.state (told t m) → IsRead (record p { state = m; begun = b }) place
judged_end p m b t place h j =
    let k = keeps_told p.start None p.begun t p.state m h.sound j in
    let e = held-keeps p.state m p.ignored k in
    record { tiles = rw e h.tiles; counted = rw e h.counted; within = h.within; sound = k.sound; flat = h.flat; spans = h.spans }

pub bad_stops : (p : Standing) (range : Range ℕ) → IsUnderway p range.start → IsLeaf p.text range.start (word_leaf range)
    → HasStopped p range.start (Some (Syntax BadToken range))
bad_stops p range h l = record {
  tiles = h.tiles;
  sound = h.sound;
  flat = h.flat;
  spans = h.spans;
  stops = ((l, h.counted), h.within);
}

length-one : (ls : List Leaf) (l : Leaf) → length (ls ++ (l ∷ [])) ≡ length ls + 1
length-one ls l = omega (arith, length-append ls (l ∷ []))

-- a token has no children
pub spans-then : (trees : List Plain) (t : Plain) (k : SyntaxKind) (range : Range ℕ) → AllSpanIn trees → t ≡ record { kind = k; start = range.start; end = range.end; children = nothing }
    → is_node (part_of k) ≡ false → AllSpanIn (trees ++ (t ∷ []))
spans-then trees t k range h e token =
    let leaf : Plain = record { kind = k; start = range.start; end = range.end; children = nothing } in
    spans-append trees (t ∷ []) h (subst (λ (u : Plain). AllSpanIn (u ∷ [])) (sym e) (bare (part_of k) token, (tt, tt)))
  where
    bare : (p : Part) → is_node p ≡ false → Spans p range.start range.end nothing
    bare word h = refl
    bare ignored h = refl
    bare node h = cc

-- a word was taken
pub takes_word : (p q : Standing) (tree : Plain) (range : Range ℕ) → IsUnderway p range.start → IsLeaf p.text range.start (word_leaf range)
    → tree ≡ record { kind = kind.Token; start = range.start; end = range.end; children = nothing }
    → q.state ≡ grown (p.ignored ++ (tree ∷ [])) p.state → q.ignored ≡ []
    → IsRead (record p { state = q.state; ignored = q.ignored }) range.end
takes_word p q tree range h l e g none =
    let ignored = p.ignored in
    let leaf = word_leaf range in
    let trees = ignored ++ (tree ∷ []) in
    let flat : nesting_of trees ≡ 0 = rw (nesting_of-append ignored (tree ∷ []), e, h.flat) refl in
    let f : held q.state q.ignored ≡ held p.state ignored ++ (leaf ∷ []) =
    ap (λ i. held q.state i) none ∙ ap (λ s. held s []) g ∙ held-grown p.state ignored tree h.sound
    ∙ ap (λ t. held p.state ignored ++ leaves_of (t ∷ [])) e in
    record {
      tiles = rw f (tiles-then p.text 0 (held p.state ignored) range.start leaf h.tiles l);
      counted = rw f (h.counted ∙ sym (length-one (held p.state ignored) leaf));
      within = h.within;
      sound = subst (λ (s : State). IsSound s) (sym g) (grown_keeps trees p.state flat (spans-then ignored tree kind.Token range h.spans e refl) h.sound);
      flat = ap (λ i. nesting_of i) none;
      spans = subst (λ (i : List Plain). AllSpanIn i) (sym none) tt;
    }

-- an ignored token was read
pub passes_ignored : (p q : Standing) (tree : Plain) (range : Range ℕ) (n : ℕ) → IsRead p range.start → IsLeaf p.text range.start (record { part = ignored; start = range.start; end = range.end })
    → tree ≡ record { kind = kind.Ignored; start = range.start; end = range.end; children = nothing }
    → q.ignored ≡ p.ignored ++ (tree ∷ []) → n ≡ p.tokens + 1 → IsWithin p.limits.tokens n
    → IsRead (record p { ignored = q.ignored; tokens = n }) range.end
passes_ignored p q tree range n h l e more counted within =
    let old = p.ignored in
    let leaf : Leaf = record { part = ignored; start = range.start; end = range.end } in
    let m : q.ignored ≡ old ++ (tree ∷ []) = more in
    let none_more : nesting_of (old ++ (tree ∷ [])) ≡ 0 = rw (nesting_of-append old (tree ∷ []), e, h.flat) refl in
    let f : held p.state q.ignored ≡ held p.state old ++ (leaf ∷ []) =
    ap (λ i. held p.state i) m ∙ held-ignored p.state old tree ∙ ap (λ t. held p.state old ++ leaves_of (t ∷ [])) e in
    record {
      tiles = rw f (tiles-then p.text 0 (held p.state old) range.start leaf h.tiles l);
      counted = rw f (counted ∙ ap (λ z. z + 1) h.counted ∙ sym (length-one (held p.state old) leaf));
      within = within;
      sound = h.sound;
      flat = ap nesting_of m ∙ none_more;
      spans = subst (λ (ts : List Plain). AllSpanIn ts) (sym m) (spans-then old tree kind.Ignored range h.spans e refl);
    }

-- ---- the end of the text

-- nothing new begins there
still_closed : (k : _) (rows : List (List Plain)) (s : State) → (closed_in k rows s).deepest ≡ s.deepest
still_closed k [] s = refl
still_closed k (outer ∷ rows) s = refl

still_at : (stack : List Symbol) (s : State) → (state_of (turned_at None stack s)).deepest ≡ s.deepest
still_at [] s = refl
still_at (Token t ∷ stack) s = refl
still_at (One r ∷ stack) s = refl
still_at (Optional r ∷ stack) s = refl
still_at (Eager r ∷ stack) s = refl
still_at (Repeated r ∷ stack) s = refl
still_at (Wrap k ∷ stack) s = refl
still_at (Close k ∷ stack) s = still_closed k s.rows (record s { stack = stack })

still_settles : (s : State) (end : Turned) → Settles None s end → (state_of end).deepest ≡ s.deepest
still_settles s _ (takes_it e) = ap (λ t. (state_of t).deepest) (sym e) ∙ still_at s.stack s
still_settles s _ (refuses_it e) = ap (λ t. (state_of t).deepest) (sym e) ∙ still_at s.stack s
still_settles s _ (finishes e) = ap (λ t. (state_of t).deepest) (sym e) ∙ still_at s.stack s
still_settles s end (later {new = new} e more) = still_settles new end more ∙ ap (λ t. (state_of t).deepest) (sym e) ∙ still_at s.stack s

pub still_judges : (start : Rule) (begun : Bool) (s : State) (end : Turned) → Judges start None begun s end → (state_of end).deepest ≡ s.deepest
still_judges start true s end j = still_settles s end j
still_judges start false s end j = ap (λ t. (state_of t).deepest) j

-- the end of the text was judged
pub ends_at : (p : Standing) (m : State) (b : Bool) (t : Turn) → IsRead p (length p.text)
    → Judges p.start None p.begun p.state (told t m) → HasStopped (record p { state = m; begun = b }) (length p.text) None
ends_at p m b t h j =
    let r = judged_end p m b t (length p.text) h j in
    record {
      tiles = r.tiles;
      sound = r.sound;
      flat = r.flat;
      spans = r.spans;
      stops = (refl, r.counted, r.within);
    }

pub cut_at : (p : Standing) (m : State) (b : Bool) (t : Turn) → IsRead p (length p.text)
    → Judges p.start None p.begun p.state (told t m)
    → HasStopped (record p { state = m; begun = b }) (length p.text) (Some (Syntax EndOfText (record { start = length p.text; end = length p.text })))
cut_at p m b t h j =
    let e = ends_at p m b t h j in
    record { tiles = e.tiles; sound = e.sound; flat = e.flat; spans = e.spans; stops = (((refl, refl, refl), e.stops.1), e.stops.2) }

-- what changed is the machine, and whether the rule of the whole text has begun
abbrev pub Moved : Standing → Standing → Type 0
Moved p q = q ≡ record p { state = q.state; begun = q.begun }

pub moved_end : (p q : Standing) (t : Turn) → Moved p q → IsRead p (length p.text)
    → Judges p.start None p.begun p.state (told t q.state) → HasStopped q (length q.text) None
moved_end p q t e h j = subst (λ (r : Standing). HasStopped r (length r.text) None) (sym e) (ends_at p q.state q.begun t h j)

pub moved_cut : (p q : Standing) (t : Turn) → Moved p q → IsRead p (length p.text)
    → Judges p.start None p.begun p.state (told t q.state)
    → HasStopped q (length q.text) (Some (Syntax EndOfText (record { start = length p.text; end = length p.text })))
moved_cut p q t e h j =
    let error : Option CstError = Some (Syntax EndOfText (record { start = length p.text; end = length p.text })) in
    subst (λ (r : Standing). HasStopped r (length r.text) error) (sym e) (cut_at p q.state q.begun t h j)

pub moved_underway : (p q : Standing) (t : Turn) (next : Option Word) (place : ℕ) → Moved p q → IsUnderway p place
    → Judges p.start next p.begun p.state (told t q.state) → IsUnderway q place
moved_underway p q t next place e h j = subst (λ (r : Standing). IsUnderway r place) (sym e) (judged p q.state q.begun t next place h j)
