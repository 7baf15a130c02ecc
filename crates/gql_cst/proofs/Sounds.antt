-- Each turn keeps the machine sound, and the tokens of its trees as they are.
use Rattle.std.proofs.Common.{◌≡◌, ℕ, Bool, true, false, List, [], ◌∷◌, ◌++◌, Option, Some, None, refl, ◌∙◌, sym, ap, append_assoc, arith}
use Rattle.std.specs.Prelude.{◌==◌, if◌then◌else◌}
use Rattle.std.specs.List.{list_all}
use Rattle.gql_grammar.specs.declared.word.Word.{Word}
use Rattle.gql_grammar.specs.declared.rule.Rule.{Rule}
use Rattle.gql_grammar.specs.declared.symbol.Symbol.{Symbol}
use Rattle.gql_grammar.specs.declared.symbol.Symbol.TheVariants.{Token, One, Optional, Repeated, Eager, Wrap, Close}
use Rattle.gql_grammar.specs.declared.syntax_kind.SyntaxKind.{SyntaxKind}
use Rattle.gql_grammar.specs.Row.{level}
use Rattle.gql_grammar.specs.Rule.{kind_of}
use Rattle.gql_grammar.specs.Starts.{way}
use Rattle.gql_grammar.specs.bridge.Stands.{way_at}
use Rattle.std.proofs.lemmas.Bool.{eqb-true}
use Rattle.gql_cst.specs.Forest.{Plain}
use Rattle.gql_cst.specs.Leaves.{part_of}
use Rattle.gql_cst.specs.bridge.Leaves.{leaves_of}
use Rattle.gql_cst.specs.bridge.Nesting.{nesting_of}
use Rattle.gql_cst.specs.bridge.Machine.{State, Turned, again, taken, refused, finished, node_of, opened, pushed, entered, wrapped, closed_in, enter, takes_at, turned_at, turned, Settles, takes_it, refuses_it, finishes, later, Begins, Judges, ended, all_ended, grown}
use Rattle.gql_cst.specs.bridge.Sound.{is_node, depth, IsSound}
use Rattle.gql_cst.proofs.Levels.{around, around-alike, around-opened, around-wrapped}
use Rattle.gql_cst.specs.bridge.Frames.{is_loose}
use Rattle.gql_cst.specs.Spans.{AllSpanIn}
use Rattle.gql_cst.proofs.Ways.{both, makes, kind_node, way_loose}
use Rattle.gql_cst.proofs.Rows.{leaves_of-append, nesting_of-append, leaves_of-node, nesting_of-node, ended-loose, leaves_of-ended, nesting_of-ended, depth-loose, makes_node-loose, join, append_nil}
use Rattle.gql_cst.proofs.Spans.{spans-append, spans-node, spans-closed}

pub record Keeps (s new : State) : Type 0 where
  pub sound : IsSound new
  pub leaves : leaves_of (all_ended new) ≡ leaves_of (all_ended s)
  pub levels : (text : List ℕ) → around text (all_ended new) ≡ around text (all_ended s)

abbrev pub state_of : Turned → State
state_of (again s) = s
state_of (taken s) = s
state_of (refused s) = s
state_of (finished s) = s

then_keeps : (a b c : State) → Keeps a b → Keeps b c → Keeps a c
then_keeps a b c p q = record { sound = q.sound; leaves = q.leaves ∙ p.leaves; levels = λ text. q.levels text ∙ p.levels text }

stays : (s : State) → IsSound s → Keeps s s
stays s h = record { sound = h; leaves = refl; levels = λ text. refl }

pub pushed_keeps : (way : List Symbol) (s : State) → list_all is_loose way ≡ true → IsSound s → Keeps s (pushed way s)
pushed_keeps way s loose h =
    let e = ended-loose way s.stack s.row s.rows loose in
    record {
      sound = record {
        nodes = makes_node-loose way s.stack loose h.nodes;
        level = h.level ∙ sym (depth-loose way s.stack loose);
        deepest = h.deepest ∙ ap nesting_of (sym e);
        spans = h.spans;
        outer = h.outer;
      };
      leaves = ap leaves_of e;
      levels = λ text. ap (around text) e;
    }

opened_keeps : (kind : SyntaxKind) (s : State) → is_node (part_of kind) ≡ true → IsSound s → Keeps s (opened kind s)
opened_keeps kind s node h =
    let row = s.row ++ (node_of kind [] ∷ []) in
    let e = leaves_of-append s.row (node_of kind [] ∷ []) ∙ ap (λ z. leaves_of s.row ++ z) (leaves_of-node kind [] node) ∙ append_nil (leaves_of s.row) in
    record {
      sound = record {
        nodes = join _ _ node h.nodes;
        level = omega (arith, h.level);
        deepest = omega (arith, h.level, h.deepest, nesting_of-ended s.stack row s.rows h.nodes, nesting_of-ended s.stack s.row s.rows h.nodes, nesting_of-append s.row (node_of kind [] ∷ []), nesting_of-node kind [] node);
        spans = tt;
        outer = (h.spans, h.outer);
      };
      leaves = leaves_of-ended s.stack row s.rows h.nodes ∙ ap (λ z. leaves_of (ended s.stack [] s.rows) ++ z) e ∙ sym (leaves_of-ended s.stack s.row s.rows h.nodes);
      levels = λ text. around-alike text s.stack row s.row s.rows h.nodes (around-opened text kind s.row node);
    }

entered_keeps : (kind : Option SyntaxKind) (way : List Symbol) (s : State) → makes kind ≡ true → list_all is_loose way ≡ true → IsSound s → Keeps s (entered kind way s)
entered_keeps None way s node loose h = pushed_keeps way s loose h
entered_keeps (Some kind) way s node loose h =
    let p = opened_keeps kind s node h in
    then_keeps s (opened kind s) (pushed way (opened kind s)) p (pushed_keeps way (opened kind s) loose p.sound)

abbrev pub AllLoose : Option (List Symbol) → Type 0
AllLoose None = Unit {0}
AllLoose (Some way) = list_all is_loose way ≡ true

of_way : (w : Option (List Symbol)) → ((x : List Symbol) → w ≡ Some x → list_all is_loose x ≡ true) → AllLoose w
of_way None h = tt
of_way (Some x) h = h x refl

pub way_at_loose : (r : Rule) (next : Option Word) → AllLoose (way_at r next)
way_at_loose r None = tt
way_at_loose r (Some w) = of_way (way r w) (way_loose r w)

enter_keeps : (w : Option (List Symbol)) (kind : Option SyntaxKind) (s from : State) (otherwise : Turned) → AllLoose w → makes kind ≡ true
    → IsSound s → leaves_of (all_ended s) ≡ leaves_of (all_ended from)
    → ((text : List ℕ) → around text (all_ended s) ≡ around text (all_ended from)) → Keeps from (state_of otherwise) → Keeps from (state_of (enter w kind s otherwise))
enter_keeps None kind s from otherwise loose node h e f p = p
enter_keeps (Some way) kind s from otherwise loose node h e f p =
    let q = entered_keeps kind way s node loose h in
    record { sound = q.sound; leaves = q.leaves ∙ e; levels = λ text. q.levels text ∙ f text }

abbrev pub made : List Symbol → List Plain → List (List Plain) → ℕ → ℕ → State
made stack row rows level deepest = record { stack = stack; row = row; rows = rows; level = level; deepest = deepest }

at_token : (b : Bool) (s : State) → state_of (if b then taken s else refused s) ≡ s
at_token true s = refl
at_token false s = refl

pub along : (from a b : State) → a ≡ b → Keeps from b → Keeps from a
along from a b e p = rw e p

popped : (symbol : Symbol) (stack : List Symbol) (row : List Plain) (rows : List (List Plain)) (l d : ℕ) → depth (symbol ∷ stack) ≡ depth stack
    → ended (symbol ∷ stack) row rows ≡ ended stack row rows → IsSound (made (symbol ∷ stack) row rows l d) → Keeps (made (symbol ∷ stack) row rows l d) (made stack row rows l d)
popped symbol stack row rows l d e f h = record {
  sound = record { nodes = (both _ _ h.nodes).1; level = h.level ∙ e; deepest = h.deepest ∙ ap nesting_of f; spans = h.spans; outer = h.outer };
  leaves = ap leaves_of (sym f);
  levels = λ text. ap (around text) (sym f);
}

wrapped_keeps : (kind : SyntaxKind) (s : State) → is_node (part_of kind) ≡ true → level kind ≡ 0 → IsSound s → Keeps s (wrapped kind s)
wrapped_keeps kind s node flat h = record {
  sound = record {
    nodes = h.nodes;
    level = h.level;
    deepest = omega (arith, h.deepest, nesting_of-ended s.stack s.row s.rows h.nodes, nesting_of-ended s.stack (node_of kind s.row ∷ []) s.rows h.nodes, nesting_of-node kind s.row node);
    spans = spans-node kind s.row node h.spans;
    outer = h.outer;
  };
  leaves = leaves_of-ended s.stack (node_of kind s.row ∷ []) s.rows h.nodes ∙ ap (λ z. leaves_of (ended s.stack [] s.rows) ++ z) (leaves_of-node kind s.row node)
      ∙ sym (leaves_of-ended s.stack s.row s.rows h.nodes);
  levels = λ text. around-alike text s.stack (node_of kind s.row ∷ []) s.row s.rows h.nodes (around-wrapped text kind s.row node flat);
}

closed_keeps : (kind : SyntaxKind) (stack : List Symbol) (row : List Plain) (rows : List (List Plain)) (l d : ℕ) → IsSound (made (Close kind ∷ stack) row rows l d)
    → Keeps (made (Close kind ∷ stack) row rows l d) (closed_in kind rows (made stack row rows l d))
closed_keeps kind stack row [] l d h = record {
  sound = record { nodes = (both _ _ h.nodes).1; level = omega (arith, h.level); deepest = h.deepest; spans = spans-node kind row (both _ _ h.nodes).0 h.spans; outer = tt };
  leaves = refl;
  levels = λ text. refl;
}
closed_keeps kind stack row (outer ∷ rows) l d h = record {
  sound = record {
    nodes = (both _ _ h.nodes).1;
    level = omega (arith, h.level);
    deepest = h.deepest;
    spans = spans-closed outer kind row (both _ _ h.nodes).0 h.outer.0 h.spans;
    outer = h.outer.1;
  };
  leaves = refl;
  levels = λ text. refl;
}

at_keeps : (next : Option Word) (stack : List Symbol) (row : List Plain) (rows : List (List Plain)) (l d : ℕ) → IsSound (made stack row rows l d)
    → Keeps (made stack row rows l d) (state_of (turned_at next stack (made stack row rows l d)))
at_keeps next [] row rows l d h = stays _ h
at_keeps next (Token t ∷ stack) row rows l d h =
    along _ _ _ (at_token (takes_at t next) (made stack row rows l d)) (popped (Token t) stack row rows l d refl refl h)
at_keeps next (One r ∷ stack) row rows l d h =
    let p = popped (One r) stack row rows l d refl refl h in
    enter_keeps (way_at r next) (kind_of r) (made stack row rows l d) (made (One r ∷ stack) row rows l d) (refused (made stack row rows l d)) (way_at_loose r next) (kind_node r) p.sound p.leaves p.levels p
at_keeps next (Optional r ∷ stack) row rows l d h =
    let p = popped (Optional r) stack row rows l d refl refl h in
    enter_keeps (way_at r next) (kind_of r) (made stack row rows l d) (made (Optional r ∷ stack) row rows l d) (again (made stack row rows l d)) (way_at_loose r next) (kind_node r) p.sound p.leaves p.levels p
at_keeps next (Eager r ∷ stack) row rows l d h =
    let p = popped (Eager r) stack row rows l d refl refl h in
    enter_keeps (way_at r next) (kind_of r) (made stack row rows l d) (made (Eager r ∷ stack) row rows l d) (again (made stack row rows l d)) (way_at_loose r next) (kind_node r) p.sound p.leaves p.levels p
at_keeps next (Repeated r ∷ stack) row rows l d h =
    let p = popped (Repeated r) stack row rows l d refl refl h in
    enter_keeps (way_at r next) (kind_of r) (made (Repeated r ∷ stack) row rows l d) (made (Repeated r ∷ stack) row rows l d) (again (made stack row rows l d)) (way_at_loose r next) (kind_node r) h refl (λ text. refl) p
at_keeps next (Wrap kind ∷ stack) row rows l d h =
    let p = popped (Wrap kind) stack row rows l d refl refl h in
    let k = both _ _ (both _ _ h.nodes).0 in
    then_keeps _ _ _ p (wrapped_keeps kind (made stack row rows l d) k.0 (eqb-true (level kind) 0 (both (level kind == 0) _ k.1).0) p.sound)
at_keeps next (Close kind ∷ stack) row rows l d h = closed_keeps kind stack row rows l d h

pub turn_keeps : (next : Option Word) (s : State) → IsSound s → Keeps s (state_of (turned next s))
turn_keeps next s h = at_keeps next s.stack s.row s.rows s.level s.deepest h

pub settles_keep : (next : Option Word) (s : State) (end : Turned) → IsSound s → Settles next s end → Keeps s (state_of end)
settles_keep next s _ h (takes_it e) = along _ _ _ (ap state_of (sym e)) (turn_keeps next s h)
settles_keep next s _ h (refuses_it e) = along _ _ _ (ap state_of (sym e)) (turn_keeps next s h)
settles_keep next s _ h (finishes e) = along _ _ _ (ap state_of (sym e)) (turn_keeps next s h)
settles_keep next s end h (later {new = new} e more) =
    let p = along s _ _ (ap state_of (sym e)) (turn_keeps next s h) in
    then_keeps s new (state_of end) p (settles_keep next new end p.sound more)

begins_keep : (w : Option (List Symbol)) (next : Option Word) (s : State) (end : Turned) → AllLoose w → IsSound s → Begins w next s end → Keeps s (state_of end)
begins_keep None next s end loose h e = along _ _ _ (ap state_of e) (stays s h)
begins_keep (Some way) next s end loose h more =
    let p = pushed_keeps way s loose h in
    then_keeps s (pushed way s) (state_of end) p (settles_keep next (pushed way s) end p.sound more)

pub judges_keep : (start : Rule) (next : Option Word) (begun : Bool) (s : State) (end : Turned) → IsSound s → Judges start next begun s end → Keeps s (state_of end)
judges_keep start next true s end h j = settles_keep next s end h j
judges_keep start next false s end h j = begins_keep (way_at start next) next s end (way_at_loose start next) h j

-- a token opens no level
pub grown_keeps : (trees : List Plain) (s : State) → nesting_of trees ≡ 0 → AllSpanIn trees → IsSound s → IsSound (grown trees s)
grown_keeps trees s flat span h = record {
  nodes = h.nodes;
  level = h.level;
  deepest = omega (arith, h.deepest, flat, nesting_of-ended s.stack s.row s.rows h.nodes, nesting_of-ended s.stack (s.row ++ trees) s.rows h.nodes, nesting_of-append s.row trees);
  spans = spans-append s.row trees h.spans span;
  outer = h.outer;
}

pub leaves_of-grown : (trees : List Plain) (s : State) → IsSound s → leaves_of (all_ended (grown trees s)) ≡ leaves_of (all_ended s) ++ leaves_of trees
leaves_of-grown trees s h =
    let start = leaves_of (ended s.stack [] s.rows) in
    leaves_of-ended s.stack (s.row ++ trees) s.rows h.nodes ∙ ap (λ z. start ++ z) (leaves_of-append s.row trees)
    ∙ sym (append_assoc start (leaves_of s.row) (leaves_of trees)) ∙ ap (λ z. z ++ leaves_of trees) (sym (leaves_of-ended s.stack s.row s.rows h.nodes))
