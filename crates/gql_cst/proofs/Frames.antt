-- Rules that are open, and what an output stands for beside them.
use Rattle.std.proofs.Common.{◌≡◌, ℕ, ◌+◌, ◌-◌, Bool, true, false, ◌&&◌, ◌==◌, List, [], ◌∷◌, ◌++◌, length, reverse, Option, Some, None, refl, ◌∙◌, sym, ap, subst, arith}
use Rattle.std.specs.List.{list_all}
use Rattle.std.proofs.lemmas.Bool.{eqb-true}
use Rattle.std.proofs.lemmas.List.{reverse-append}
use Rattle.gql_grammar.specs.declared.word.Word.{Word}
use Rattle.gql_grammar.specs.declared.rule.Rule.{Rule}
use Rattle.gql_grammar.specs.declared.symbol.Symbol.{Symbol}
use Rattle.gql_grammar.specs.declared.symbol.Symbol.TheVariants.{Close}
use Rattle.gql_grammar.specs.declared.syntax_kind.SyntaxKind.{SyntaxKind}
use Rattle.gql_grammar.specs.Row.{level}
use Rattle.gql_grammar.specs.bridge.Stands.{way_at}
use Rattle.gql_cst.specs.declared.begun.Begun.{Begun}
use Rattle.gql_cst.specs.declared.frame.Frame.{Frame}
use Rattle.gql_cst.specs.Forest.{Plain}
use Rattle.gql_cst.specs.bridge.Frames.{is_loose, closing, stack_of, beginning, nodes_of, is_first, is_framed, IsSame}
use Rattle.gql_cst.specs.Late.{is_late}
use Rattle.gql_cst.specs.bridge.Lies.{Lies}
use Rattle.gql_cst.specs.bridge.Machine.{State, again, node_of, pushed, opened, wrapped, closed_in, turned_by, turned_at, turned, ended, all_ended}
use Rattle.gql_cst.specs.bridge.Open.{Node, Open, opens, opened as begins, grown_by, wrapped as wraps}
use Rattle.gql_cst.proofs.Ways.{both, way_loose}
use Rattle.gql_cst.proofs.Rows.{ended-loose}

-- ---- what the tests tell

pub record Framed (f : Frame) (frames : List Frame) : Type 0 where
  pub first : is_first f.begun (nodes_of (f ∷ frames)) ≡ true
  pub loose : list_all is_loose f.way.now ≡ true
  pub rest : is_framed frames ≡ true

pub framed-told : (f : Frame) (frames : List Frame) → is_framed (f ∷ frames) ≡ true → Framed f frames
framed-told f frames h =
    let p = both (is_first f.begun (nodes_of (f ∷ frames)) && list_all is_loose f.way.now) _ h in
    let q = both (is_first f.begun (nodes_of (f ∷ frames))) _ p.0 in
    record { first = q.0; loose = q.1; rest = p.1 }

loose_off : (first symbol rest around : Bool) → ((first && (symbol && rest)) && around) ≡ true → (symbol ≡ true) × (((first && rest) && around) ≡ true)
loose_off true true rest around h = (refl, h)
loose_off true false rest around h = cc
loose_off false symbol rest around h = cc

-- the first symbol is taken off
pub framed-off : (f : Frame) (frames : List Frame) (symbol : Symbol) (rest : List Symbol) → f.way.now ≡ symbol ∷ rest → is_framed (f ∷ frames) ≡ true
    → (is_loose symbol ≡ true) × (((is_first f.begun (nodes_of (f ∷ frames)) && list_all is_loose rest) && is_framed frames) ≡ true)
framed-off f frames symbol rest w h =
    let first = is_first f.begun (nodes_of (f ∷ frames)) in
    loose_off first (is_loose symbol) (list_all is_loose rest) (is_framed frames) (subst (λ (way : List Symbol). ((first && list_all is_loose way) && is_framed frames) ≡ true) w h)

-- the first of the nodes that began
pub first-node : (b : Begun) (bs : List Node) → is_first b bs ≡ true → (first : Node) × (rest : List Node) × (bs ≡ first ∷ rest) × (first.begun ≡ b)
first-node b [] h = cc
first-node b (c ∷ rest) h =
    let p = both (b.mark == c.begun.mark) _ h in
    let mark : c.begun.mark ≡ b.mark = sym (eqb-true b.mark c.begun.mark p.0) in
    let place : c.begun.place ≡ b.place = sym (eqb-true b.place c.begun.place p.1) in
    (c, rest, refl, (λ i. record { mark = mark i; place = place i }))

pub some-node : (frames : List Frame) → nodes_of frames ≡ [] → ⊥
some-node [] e = cc
some-node (f ∷ frames) e = by_kind f.kind (some-node frames) e
  where
    by_kind : (kind : Option SyntaxKind) → (nodes_of frames ≡ [] → ⊥) → beginning kind f.begun (nodes_of frames) ≡ [] → ⊥
    by_kind None some e = some e
    by_kind (Some kind) some e = cc

-- ---- rules that have ended

pub same-then : (a b c : List Frame) → IsSame a b → IsSame b c → IsSame a c
same-then a b c p q = record {
  stack = q.stack ∙ p.stack;
  nodes = q.nodes ∙ p.nodes;
  framed = λ h. q.framed (p.framed h);
}

pub same-skipped : (f : Frame) (frames : List Frame) → f.way.now ≡ [] → f.kind ≡ None → IsSame (f ∷ frames) frames
same-skipped f frames w k =
    record {
      stack = (λ i. sym w i ++ closing (sym k i) (stack_of frames));
      nodes = (λ i. beginning (sym k i) f.begun (nodes_of frames));
      framed = λ h. (framed-told f frames h).rest;
    }

pub reverse-pushed : {X : Type 0} (xs front : List X) (x : X) → xs ≡ front ++ (x ∷ []) → reverse xs ≡ x ∷ reverse front
reverse-pushed xs front x e = ap reverse e ∙ reverse-append front (x ∷ [])

pub way-loose : (rule : Rule) (next : Option Word) (way : List Symbol) → Some way ≡ way_at rule next → list_all is_loose way ≡ true
way-loose rule None way e = cc
way-loose rule (Some w) way e = way_loose rule w way (sym e)

-- ---- turns

pub turned-close : (next : Option Word) (s : State) (kind : SyntaxKind) (stack : List Symbol) (outer : List Plain) (rows : List (List Plain)) → s.stack ≡ Close kind ∷ stack → s.rows ≡ outer ∷ rows
    → again (record { stack = stack; row = outer ++ (node_of kind s.row ∷ []); rows = rows; level = s.level - level kind; deepest = s.deepest }) ≡ turned next s
turned-close next s kind stack outer rows e h =
    sym ((λ i. turned_at next (e i) s) ∙ (λ i. again (closed_in kind (h i) (record s { stack = stack }))))

pub turned-symbol : (next : Option Word) (s : State) (symbol : Symbol) (stack : List Symbol) → s.stack ≡ symbol ∷ stack → turned_by next symbol (record s { stack = stack }) ≡ turned next s
turned-symbol next s symbol stack e = sym (λ i. turned_at next (e i) s)

-- ---- what the output stands for

module _ {O : Type 0} (Stands : O → ℕ → List Open → List Plain → Type 0) where
  abbrev pub Wraps : O → O → SyntaxKind → Begun → Type 0
  Wraps old new kind begun =
      (at : ℕ) (inner : Open) (os : List Open) (waiting : List Plain) → is_late kind ≡ true → inner.node.begun ≡ begun
      → Stands old at (inner ∷ os) waiting → Stands new at (wraps kind inner ∷ os) waiting

  abbrev pub Ends : O → O → SyntaxKind → Begun → Type 0
  Ends old new kind begun =
      (at : ℕ) (inner outer : Open) (os : List Open) (waiting : List Plain) → inner.node ≡ record { kind = Some kind; begun = begun }
      → Stands old at (inner ∷ outer ∷ os) waiting → Stands new at (grown_by (node_of kind inner.trees ∷ []) outer ∷ os) waiting

  pub lies-same : (old new : List Frame) (out : O) (at : ℕ) (waiting : List Plain) (s : State) → IsSame old new → Lies Stands old out at waiting s → Lies Stands new out at waiting s
  lies-same old new out at waiting s e h = record {
    stack = h.stack ∙ sym e.stack;
    many = h.many ∙ ap length (sym e.nodes);
    made = subst (λ (bs : List Node). Stands out at (opens bs (s.row ∷ s.rows)) waiting) (sym e.nodes) h.made;
  }

  pub lies-pushed : (f : Frame) (frames : List Frame) (out : O) (at : ℕ) (waiting : List Plain) (s : State) → f.kind ≡ None → Lies Stands frames out at waiting s
      → Lies Stands (f ∷ frames) out at waiting (pushed f.way.now s)
  lies-pushed f frames out at waiting s k h =
      let begun : nodes_of frames ≡ nodes_of (f ∷ frames) = (λ i. beginning (sym k i) f.begun (nodes_of frames)) in
      record {
        stack = ap (λ z. f.way.now ++ z) h.stack ∙ (λ i. f.way.now ++ closing (sym k i) (stack_of frames));
        many = h.many ∙ ap length begun;
        made = subst (λ (bs : List Node). Stands out at (opens bs (s.row ∷ s.rows)) waiting) begun h.made;
      }

  pub lies-opened : (f : Frame) (frames : List Frame) (old new : O) (kind : SyntaxKind) (at : ℕ) (waiting : List Plain) (s : State) → f.kind ≡ Some kind
      → ((os : List Open) (waiting : List Plain) → Stands old at os waiting → Stands new at (begins kind f.begun.mark f.begun.place ∷ os) waiting)
      → Lies Stands frames old at waiting s → Lies Stands (f ∷ frames) new at waiting (pushed f.way.now (opened kind s))
  lies-opened f frames old new kind at waiting s k b h =
      let nodes : record { kind = Some kind; begun = f.begun } ∷ nodes_of frames ≡ nodes_of (f ∷ frames) = (λ i. beginning (sym k i) f.begun (nodes_of frames)) in
      record {
        stack = ap (λ z. f.way.now ++ (Close kind ∷ z)) h.stack ∙ (λ i. f.way.now ++ closing (sym k i) (stack_of frames));
        many = omega (arith, h.many, ap length nodes);
        made = subst (λ (bs : List Node). Stands new at (opens bs ([] ∷ s.row ∷ s.rows)) waiting) nodes (b (opens (nodes_of frames) (s.row ∷ s.rows)) waiting h.made);
      }

  pub lies-wrapped : (f : Frame) (frames : List Frame) (old new : O) (kind : SyntaxKind) (at : ℕ) (waiting : List Plain) (s : State) → is_framed (f ∷ frames) ≡ true → is_late kind ≡ true
      → Wraps old new kind f.begun → Lies Stands (f ∷ frames) old at waiting s → Lies Stands (f ∷ frames) new at waiting (wrapped kind s)
  lies-wrapped f frames old new kind at waiting s framed late w h =
      let p = first-node f.begun (nodes_of (f ∷ frames)) (framed-told f frames framed).first in
      record {
        stack = h.stack;
        many = h.many;
        made = subst (λ (bs : List Node). Stands new at (opens bs ((node_of kind s.row ∷ []) ∷ s.rows)) waiting) (sym p.2)
            (w at (record { node = p.0; trees = s.row }) (opens p.1 s.rows) waiting late p.3 (subst (λ (bs : List Node). Stands old at (opens bs (s.row ∷ s.rows)) waiting) p.2 h.made));
      }

  -- the row around a node that has ended, and those around it
  record Around (frames : List Frame) (new : O) (kind : SyntaxKind) (at : ℕ) (waiting : List Plain) (row : List Plain) (rows : List (List Plain)) : Type 0 where
    outer : List Plain
    more : List (List Plain)
    is : rows ≡ outer ∷ more
    many : length ((outer ++ (node_of kind row ∷ [])) ∷ more) ≡ length (nodes_of frames)
    made : Stands new at (opens (nodes_of frames) ((outer ++ (node_of kind row ∷ [])) ∷ more)) waiting

  around-at : (frames : List Frame) (old new : O) (kind : SyntaxKind) (begun : Begun) (at : ℕ) (waiting : List Plain) (row : List Plain) (rows : List (List Plain)) (bs : List Node)
      → nodes_of frames ≡ bs → length (row ∷ rows) ≡ length bs + 1 → Ends old new kind begun
      → Stands old at (opens (record { kind = Some kind; begun = begun } ∷ bs) (row ∷ rows)) waiting → Around frames new kind at waiting row rows
  around-at frames old new kind begun at waiting row rows [] e many ends h = absurd (some-node frames e)
  around-at frames old new kind begun at waiting row [] (b ∷ bs) e many ends h = absurd (omega (arith, many))
  around-at frames old new kind begun at waiting row (outer ∷ more) (b ∷ bs) e many ends h =
      let new_row = outer ++ (node_of kind row ∷ []) in
      let inner : Open = record { node = record { kind = Some kind; begun = begun }; trees = row } in
      record {
        outer = outer;
        more = more;
        is = refl;
        many = subst (λ (z : List Node). length (new_row ∷ more) ≡ length z) (sym e) (omega (arith, many));
        made = subst (λ (z : List Node). Stands new at (opens z (new_row ∷ more)) waiting) (sym e) (ends at inner (record { node = b; trees = outer }) (opens bs more) waiting refl h);
      }

  around : (f : Frame) (frames : List Frame) (old new : O) (kind : SyntaxKind) (at : ℕ) (waiting : List Plain) (s : State) → f.kind ≡ Some kind → Ends old new kind f.begun
      → Lies Stands (f ∷ frames) old at waiting s → Around frames new kind at waiting s.row s.rows
  around f frames old new kind at waiting s k ends h =
      let node : Node = record { kind = Some kind; begun = f.begun } in
      let nodes : nodes_of (f ∷ frames) ≡ node ∷ nodes_of frames = (λ i. beginning (k i) f.begun (nodes_of frames)) in
      around-at frames old new kind f.begun at waiting s.row s.rows (nodes_of frames) refl (omega (arith, h.many, ap length nodes)) ends
      (subst (λ (bs : List Node). Stands old at (opens bs (s.row ∷ s.rows)) waiting) nodes h.made)

  -- the innermost node ends
  pub record Closed (frames : List Frame) (new : O) (kind : SyntaxKind) (next : Option Word) (at : ℕ) (waiting : List Plain) (s : State) : Type 0 where
    pub state : State
    pub lies : Lies Stands frames new at waiting state
    pub lower : state.level ≡ s.level - level kind
    pub deepest : state.deepest ≡ s.deepest
    pub turns : again state ≡ turned next s

  pub lies-closed : (f : Frame) (frames : List Frame) (old new : O) (kind : SyntaxKind) (next : Option Word) (at : ℕ) (waiting : List Plain) (s : State) → f.way.now ≡ [] → f.kind ≡ Some kind
      → Ends old new kind f.begun → Lies Stands (f ∷ frames) old at waiting s → Closed frames new kind next at waiting s
  lies-closed f frames old new kind next at waiting s w k ends h =
      let a = around f frames old new kind at waiting s k ends h in
      let stack : s.stack ≡ Close kind ∷ stack_of frames = h.stack ∙ (λ i. w i ++ closing (k i) (stack_of frames)) in
      record {
        state = record { stack = stack_of frames; row = a.outer ++ (node_of kind s.row ∷ []); rows = a.more; level = s.level - level kind; deepest = s.deepest };
        lies = record { stack = refl; many = a.many; made = a.made };
        lower = refl;
        deepest = refl;
        turns = turned-close next s kind (stack_of frames) a.outer a.more stack a.is;
      }

  -- ---- all rules end

  pub left-none : (f : Frame) (frames : List Frame) (out : O) (at : ℕ) (waiting : List Plain) (s : State) → is_framed (f ∷ frames) ≡ true → f.kind ≡ None
      → Lies Stands (f ∷ frames) out at waiting s → (t : State) × Lies Stands frames out at waiting t × (all_ended t ≡ all_ended s)
  left-none f frames out at waiting s framed k h =
      let begun : nodes_of (f ∷ frames) ≡ nodes_of frames = (λ i. beginning (k i) f.begun (nodes_of frames)) in
      let stack : s.stack ≡ f.way.now ++ stack_of frames = h.stack ∙ (λ i. f.way.now ++ closing (k i) (stack_of frames)) in (
        record s { stack = stack_of frames },
        record {
          stack = refl;
          many = h.many ∙ ap length begun;
          made = subst (λ (bs : List Node). Stands out at (opens bs (s.row ∷ s.rows)) waiting) begun h.made;
        },
        sym ((λ i. ended (stack i) s.row s.rows) ∙ ended-loose f.way.now (stack_of frames) s.row s.rows (framed-told f frames framed).loose),
      )

  pub left-some : (f : Frame) (frames : List Frame) (old new : O) (kind : SyntaxKind) (at : ℕ) (waiting : List Plain) (s : State) → is_framed (f ∷ frames) ≡ true → f.kind ≡ Some kind
      → Ends old new kind f.begun → Lies Stands (f ∷ frames) old at waiting s → (t : State) × Lies Stands frames new at waiting t × (all_ended t ≡ all_ended s)
  left-some f frames old new kind at waiting s framed k ends h =
      let a = around f frames old new kind at waiting s k ends h in
      let stack : s.stack ≡ f.way.now ++ (Close kind ∷ stack_of frames) = h.stack ∙ (λ i. f.way.now ++ closing (k i) (stack_of frames)) in
      let row = a.outer ++ (node_of kind s.row ∷ []) in (
        record s { stack = stack_of frames; row = row; rows = a.more },
        record { stack = refl; many = a.many; made = a.made },
        sym ((λ i. ended (stack i) s.row (a.is i)) ∙ ended-loose f.way.now (Close kind ∷ stack_of frames) s.row (a.outer ∷ a.more) (framed-told f frames framed).loose),
      )
