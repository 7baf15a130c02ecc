-- What the code's steps make of the state that the machine holds.
use Rattle.std.proofs.Common.{◌≡◌, ℕ, ◌+◌, ◌-◌, ◌<◌, max, true, List, [], ◌∷◌, ◌++◌, length, reverse, Option, Some, None, refl, ◌∙◌, sym, ap, subst}
use Rattle.std.specs.declared.ops.Range.{Range}
use Rattle.gql_grammar.specs.declared.word.Word.{Word}
use Rattle.gql_grammar.specs.declared.symbol.Symbol.{Symbol}
use Rattle.gql_grammar.specs.declared.syntax_kind.SyntaxKind.{SyntaxKind}
use Rattle.gql_grammar.specs.Row.{level}
use Rattle.gql_grammar.specs.bridge.Turns.{turns}
use Rattle.gql_cst.specs.declared.frame.Frame.{Frame}
use Rattle.gql_cst.specs.declared.machine.Machine.{Machine}
use Rattle.gql_cst.specs.declared.turn.Turn.{Turn}
use Rattle.gql_cst.specs.Forest.{Plain}
use Rattle.gql_cst.specs.bridge.Frames.{closing, stack_of, beginning, nodes_of, IsSame}
use Rattle.gql_cst.specs.bridge.Held.{frames_of, Holds, Becomes, Goes, IsHeld}
use Rattle.gql_cst.specs.Late.{is_late}
use Rattle.gql_cst.specs.bridge.Lies.{Lies}
use Rattle.gql_cst.specs.bridge.Machine.{State, Turned, again, pushed, opened, wrapped, turned_by, turned, Settles, later, told, grown}
use Rattle.gql_cst.specs.bridge.Open.{Node, Open, opens, opened as begins, grown_by, token as token_of, ignored as ignored_of}
use Rattle.gql_cst.proofs.Falls.{turns-fall}
use Rattle.gql_cst.proofs.Frames.{some-node, reverse-pushed, turned-symbol, Wraps, Ends, lies-same, lies-pushed, lies-opened, lies-wrapped, lies-closed}

-- ---- the rule of the whole text

module _ {O : Type 0} (Stands : O → ℕ → List Open → List Plain → Type 0) where
  pub opened-held : (m new : Machine O) (kind : SyntaxKind) (place : ℕ) → new.top.kind ≡ Some kind → new.top.begun.place ≡ place → new.outer.items ≡ m.outer.items ++ (m.top ∷ [])
      → ((os : List Open) (waiting : List Plain) → Stands m.out place os waiting → Stands new.out place (begins kind new.top.begun.mark place ∷ os) waiting)
      → new.level ≡ m.level + level kind → new.deepest ≡ max m.deepest new.level → Becomes Stands m new place (λ s. pushed new.top.way.now (opened kind s))
  opened-held m new kind place k p o b l d = λ waiting s h.
      let outer : reverse new.outer.items ≡ frames_of m = reverse-pushed new.outer.items m.outer.items m.top o in
      let b2 : (os : List Open) (waiting : List Plain) → Stands m.out place os waiting → Stands new.out place (begins kind new.top.begun.mark new.top.begun.place ∷ os) waiting =
      λ os w g. subst (λ (n : ℕ). Stands new.out place (begins kind new.top.begun.mark n ∷ os) w) (sym p) (b os w g) in
      let higher : s.level + level kind ≡ new.level = ap (λ n. n + level kind) h.level ∙ sym l in
      record {
        lies = subst (λ (fs : List Frame). Lies Stands (new.top ∷ fs) new.out place waiting (pushed new.top.way.now (opened kind s))) (sym outer)
            (lies-opened Stands new.top (frames_of m) m.out new.out kind place waiting s k b2 h.lies);
        level = higher;
        deepest = (λ i. max (h.deepest i) (higher i)) ∙ sym d;
      }

  pub pushed-held : (m new : Machine O) → new.top.kind ≡ None → new.outer.items ≡ m.outer.items ++ (m.top ∷ []) → new.out ≡ m.out → new.level ≡ m.level → new.deepest ≡ m.deepest
      → (at : ℕ) → Becomes Stands m new at (pushed new.top.way.now)
  pushed-held m new k o out l d at = λ waiting s h.
      let outer : reverse new.outer.items ≡ frames_of m = reverse-pushed new.outer.items m.outer.items m.top o in
      record {
        lies = subst (λ (x : O). Lies Stands (frames_of new) x at waiting (pushed new.top.way.now s)) (sym out)
            (subst (λ (fs : List Frame). Lies Stands (new.top ∷ fs) m.out at waiting (pushed new.top.way.now s)) (sym outer) (lies-pushed Stands new.top (frames_of m) m.out at waiting s k h.lies));
        level = h.level ∙ sym l;
        deepest = h.deepest ∙ sym d;
      }

  pub wrapped-held : (m new : Machine O) (kind : SyntaxKind) → new.top ≡ m.top → new.outer.items ≡ m.outer.items → new.level ≡ m.level → new.deepest ≡ m.deepest
      → is_late kind ≡ true → Wraps Stands m.out new.out kind m.top.begun → (at : ℕ) → Becomes Stands m new at (wrapped kind)
  wrapped-held m new kind t o l d late w at = λ waiting s h. record {
    lies = subst (λ (f : Frame). Lies Stands (f ∷ reverse new.outer.items) new.out at waiting (wrapped kind s)) (sym t)
        (subst (λ (fs : List Frame). Lies Stands (m.top ∷ reverse fs) new.out at waiting (wrapped kind s)) (sym o)
        (lies-wrapped Stands m.top (reverse m.outer.items) m.out new.out kind at waiting s m.framed late w h.lies));
    level = h.level ∙ sym l;
    deepest = h.deepest ∙ sym d;
  }

  -- ---- tokens

  pub ignored-held : (m new : Machine O) (range : Range ℕ) → new.top ≡ m.top → new.outer.items ≡ m.outer.items → new.level ≡ m.level → new.deepest ≡ m.deepest
      → ((at : ℕ) (os : List Open) (waiting : List Plain) → Stands m.out at os waiting → Stands new.out at os (waiting ++ (ignored_of range ∷ [])))
      → (at : ℕ) (waiting : List Plain) (s : State) → Holds Stands m at waiting s → Holds Stands new at (waiting ++ (ignored_of range ∷ [])) s
  ignored-held m new range t o l d came at waiting s h =
      let same : frames_of m ≡ frames_of new = (λ i. sym t i ∷ reverse (sym o i)) in
      record {
        lies = subst (λ (fs : List Frame). Lies Stands fs new.out at (waiting ++ (ignored_of range ∷ [])) s) same
            (record { stack = h.lies.stack; many = h.lies.many; made = came at (opens (nodes_of (frames_of m)) (s.row ∷ s.rows)) waiting h.lies.made });
        level = h.level ∙ sym l;
        deepest = h.deepest ∙ sym d;
      }

  abbrev pub Comes : O → O → Range ℕ → Type 0
  Comes old new range =
      (inner : Open) (os : List Open) (waiting : List Plain) (next : ℕ) → Stands old range.start (inner ∷ os) waiting
      → Stands new next (grown_by (waiting ++ (token_of range ∷ [])) inner ∷ os) []

  comes-at : (old new : O) (range : Range ℕ) (bs : List Node) (row : List Plain) (rows : List (List Plain)) (waiting : List Plain) (next : ℕ) → (bs ≡ [] → ⊥) → Comes old new range
      → Stands old range.start (opens bs (row ∷ rows)) waiting → Stands new next (opens bs ((row ++ (waiting ++ (token_of range ∷ []))) ∷ rows)) []
  comes-at old new range [] row rows waiting next some came h = absurd (some refl)
  comes-at old new range (b ∷ bs) row rows waiting next some came h = came (record { node = b; trees = row }) (opens bs rows) waiting next h

  pub token-held : (m new : Machine O) (range : Range ℕ) → new.top ≡ m.top → new.outer.items ≡ m.outer.items → new.level ≡ m.level → new.deepest ≡ m.deepest → Comes m.out new.out range
      → (at : ℕ) (waiting : List Plain) (s : State) → Holds Stands m range.start waiting s → Holds Stands new at [] (grown (waiting ++ (token_of range ∷ [])) s)
  token-held m new range t o l d came at waiting s h =
      let same : frames_of m ≡ frames_of new = (λ i. sym t i ∷ reverse (sym o i)) in
      record {
        lies = subst (λ (fs : List Frame). Lies Stands fs new.out at [] (grown (waiting ++ (token_of range ∷ [])) s)) same
            (record {
              stack = h.lies.stack;
              many = h.lies.many;
              made = comes-at m.out new.out range (nodes_of (frames_of m)) s.row s.rows waiting at (some-node (frames_of m)) came h.lies.made;
            });
        level = h.level ∙ sym l;
        deepest = h.deepest ∙ sym d;
      }

  -- ---- a turn, where groups that have ended are left before

  pub record Same (m n : Machine O) : Type 0 where
    pub frames : IsSame (frames_of m) (frames_of n)
    pub out : n.out ≡ m.out
    pub level : n.level ≡ m.level
    pub deepest : n.deepest ≡ m.deepest

  pub same-held : (m n : Machine O) (at : ℕ) (waiting : List Plain) (s : State) → Same m n → Holds Stands m at waiting s → Holds Stands n at waiting s
  same-held m n at waiting s e h = record {
    lies = subst (λ (x : O). Lies Stands (frames_of n) x at waiting s) (sym e.out) (lies-same Stands (frames_of m) (frames_of n) m.out at waiting s e.frames h.lies);
    level = h.level ∙ sym e.level;
    deepest = h.deepest ∙ sym e.deepest;
  }

  -- the first symbol is taken off
  pub turn-symbol : (m n off new : Machine O) (next : Option Word) (symbol : Symbol) (t : Turn) (place : ℕ) → Same m n → n.top.way.now ≡ symbol ∷ off.top.way.now
      → off.top.kind ≡ n.top.kind → off.top.begun ≡ n.top.begun → off.outer.items ≡ n.outer.items → off.out ≡ n.out → off.level ≡ n.level → off.deepest ≡ n.deepest
      → Goes Stands off new place (λ s u. told t u ≡ turned_by next symbol s) → Goes Stands m new place (λ s u. told t u ≡ turned next s)
  turn-symbol m n off new next symbol t place same w kind begun outer out l d goes = λ waiting s h.
      let k = same-held m n place waiting s same h in
      let around = closing n.top.kind (stack_of (reverse n.outer.items)) in
      let rest = off.top.way.now ++ around in
      let bs : nodes_of (frames_of n) ≡ nodes_of (frames_of off) = (λ i. beginning (sym kind i) (sym begun i) (nodes_of (reverse (sym outer i)))) in
      let taken : State = record s { stack = rest } in
      let off_held : Holds Stands off place waiting taken = record {
        lies = record {
          stack = (λ i. off.top.way.now ++ closing (sym kind i) (stack_of (reverse (sym outer i))));
          many = k.lies.many ∙ ap length bs;
          made = subst (λ (x : O). Stands x place (opens (nodes_of (frames_of off)) (s.row ∷ s.rows)) waiting) (sym out)
              (subst (λ (z : List Node). Stands n.out place (opens z (s.row ∷ s.rows)) waiting) bs k.lies.made);
        };
        level = k.level ∙ sym l;
        deepest = k.deepest ∙ sym d;
      } in
      let went = goes waiting taken off_held in
      (went.0, went.1, went.2 ∙ turned-symbol next s symbol rest (k.lies.stack ∙ ap (λ z. z ++ around) w))

  pub turn-closed : (m n new : Machine O) (next : Option Word) (kind : SyntaxKind) (place : ℕ) → Same m n → n.top.way.now ≡ [] → n.top.kind ≡ Some kind → Ends Stands n.out new.out kind n.top.begun
      → IsSame (reverse n.outer.items) (frames_of new) → new.level ≡ n.level - level kind → new.deepest ≡ n.deepest → Goes Stands m new place (λ s t. again t ≡ turned next s)
  turn-closed m n new next kind place same w k ends left l d = λ waiting s h.
      let held = same-held m n place waiting s same h in
      let c = lies-closed Stands n.top (reverse n.outer.items) n.out new.out kind next place waiting s w k ends held.lies in (
        c.state,
        record {
          lies = lies-same Stands (reverse n.outer.items) (frames_of new) new.out place waiting c.state left c.lies;
          level = c.lower ∙ ap (λ z. z - level kind) held.level ∙ sym l;
          deepest = c.deepest ∙ held.deepest ∙ sym d;
        },
        c.turns,
      )

  -- ---- turns one after the other

  -- however it settles now, it settles so from the state at first
  abbrev pub Settles_as : Option Word → State → State → Type 0
  Settles_as next s t = (end : Turned) → Settles next t end → Settles next s end

  pub goes-again : (m mid new : Machine O) (next : Option Word) (place : ℕ) → Goes Stands m mid place (Settles_as next) → Goes Stands mid new place (λ s t. again t ≡ turned next s)
      → Goes Stands m new place (Settles_as next)
  goes-again m mid new next place before turn = λ waiting s h.
      let first = before waiting s h in
      let now = turn waiting first.0 first.1 in
      (now.0, now.1, λ end settles. first.2 end (later (sym now.2) settles))

  pub goes-told : (m mid new : Machine O) (next : Option Word) (place : ℕ) (t : Turn) → ((s u : State) → told t u ≡ turned next s → Settles next s (told t u))
      → Goes Stands m mid place (Settles_as next) → Goes Stands mid new place (λ s u. told t u ≡ turned next s) → Goes Stands m new place (λ s u. Settles next s (told t u))
  goes-told m mid new next place t ends before turn = λ waiting s h.
      let first = before waiting s h in
      let now = turn waiting first.0 first.1 in
      (now.0, now.1, first.2 (told t now.0) (ends first.0 now.0 now.2))

  -- fewer turns are left
  pub goes-fewer : (m new : Machine O) (next : Option Word) (place : ℕ) → IsHeld Stands m place → Goes Stands m new place (λ s t. again t ≡ turned next s)
      → turns (stack_of (frames_of new)) < turns (stack_of (frames_of m))
  goes-fewer m new next place held turn =
      let now = turn held.0 held.1 held.2 in
      let fall = turns-fall next held.1 now.0 (sym now.2) in
      rw (now.1.lies.stack, held.2.lies.stack) at fall

  pub goes-held : (m new : Machine O) (next : Option Word) (place : ℕ) → IsHeld Stands m place → Goes Stands m new place (λ s t. again t ≡ turned next s) → IsHeld Stands new place
  goes-held m new next place held turn = let now = turn held.0 held.1 held.2 in (held.0, now.0, now.1)
