-- A sentence that goes on from somewhere is nested at least as deep as what was read until there.
use Rattle.std.proofs.Common.{◌≡◌, ℕ, ◌+◌, ◌≤◌, max, Bool, true, false, length, List, [], ◌∷◌, ◌++◌, map, ◌∙◌, ap, subst, arith}
use Rattle.std.specs.List.{list_all}
use Rattle.gql_grammar.specs.declared.word.Word.{Word}
use Rattle.gql_grammar.specs.declared.rule.Rule.{Rule}
use Rattle.gql_grammar.specs.declared.symbol.Symbol.{Symbol}
use Rattle.gql_grammar.specs.declared.symbol.Symbol.TheVariants.{Token, One, Optional, Repeated, Eager, Wrap, Close}
use Rattle.gql_grammar.specs.declared.syntax_kind.SyntaxKind.{SyntaxKind}
use Rattle.gql_grammar.specs.bridge.Ends.{Ends, end, symbol, close, closes}
use Rattle.gql_grammar.specs.Factored.{factored}
use Rattle.gql_grammar.specs.Grammar.{Grammar}
use Rattle.gql_grammar.specs.Reads.{Reads, done, token, tree, group, skip, take, stop, again, leave, enter, wrap, Sentence}
use Rattle.gql_grammar.specs.Row as row
use Rattle.gql_grammar.specs.Row.{Row, joined, with_node, nesting, level}
use Rattle.gql_grammar.proofs.Turns.{Sentence-ends}
use Rattle.gql_grammar.proofs.Rooted.{closes-more}
use Rattle.gql_cst.specs.Forest.{Forest, nothing, tree_then, Plain, row_of}
use Rattle.gql_cst.specs.Leaves.{Part, word, ignored, node, part_of}
use Rattle.gql_cst.specs.bridge.Machine.{State, node_of, ended}
use Rattle.gql_cst.specs.Nesting.{within_node, nesting as depth_of}
use Rattle.gql_cst.specs.Sentences.{row_then, shown, root_kind}
use Rattle.gql_cst.specs.bridge.Sentences.{shown_of, Stood}
use Rattle.gql_cst.specs.bridge.Sound.{makes_node, IsSound}
use Rattle.gql_cst.proofs.Shown.{shown_of-append, shown_of-node}
use Rattle.gql_cst.proofs.Ways.{both}

-- the row, once the nodes that are open have ended
abbrev pub up : List Symbol → Row → List Row → Row
up [] x rows = x
up (Close k ∷ ss) y [] = up ss (row.node k y row.nothing) []
up (Close k ∷ ss) y (x ∷ rows) = up ss (with_node x k y) rows
up (Token t ∷ ss) x rows = up ss x rows
up (One r ∷ ss) x rows = up ss x rows
up (Optional r ∷ ss) x rows = up ss x rows
up (Repeated r ∷ ss) x rows = up ss x rows
up (Eager r ∷ ss) x rows = up ss x rows
up (Wrap k ∷ ss) x rows = up ss x rows

nesting-joined : (x y : Row) → nesting (joined x y) ≡ max (nesting x) (nesting y)
nesting-joined row.nothing y = omega arith
nesting-joined (row.leaf w x) y = nesting-joined x y
nesting-joined (row.node k inner x) y = omega (arith, nesting-joined x y)

up-mono : (ss : List Symbol) (x y : Row) (rows : List Row) → nesting x ≤ nesting y → nesting (up ss x rows) ≤ nesting (up ss y rows)
up-mono [] x y rows h = h
up-mono (Close k ∷ ss) x y [] h = up-mono ss (row.node k x row.nothing) (row.node k y row.nothing) [] (omega arith)
up-mono (Close k ∷ ss) x y (z ∷ rows) h =
    up-mono ss (with_node z k x) (with_node z k y) rows
    (omega (arith, nesting-joined z (row.node k x row.nothing), nesting-joined z (row.node k y row.nothing)))
up-mono (Token t ∷ ss) x y rows h = up-mono ss x y rows h
up-mono (One r ∷ ss) x y rows h = up-mono ss x y rows h
up-mono (Optional r ∷ ss) x y rows h = up-mono ss x y rows h
up-mono (Repeated r ∷ ss) x y rows h = up-mono ss x y rows h
up-mono (Eager r ∷ ss) x y rows h = up-mono ss x y rows h
up-mono (Wrap k ∷ ss) x y rows h = up-mono ss x y rows h

reads-deeper : {g : Grammar} {ss : List Symbol} {x y : Row} {ws vs : List Word} → Reads g ss x ws y vs → nesting x ≤ nesting y
reads-deeper done = omega arith
reads-deeper (token {x = x} t w h d) = omega (arith, reads-deeper d, nesting-joined x (row.leaf w row.nothing))
reads-deeper (tree {x = x} r k way inner h m d e) = omega (arith, reads-deeper e, nesting-joined x (row.node k inner row.nothing))
reads-deeper (group r way h m d e) = omega (arith, reads-deeper d, reads-deeper e)
reads-deeper (skip r d) = reads-deeper d
reads-deeper (take r d e) = omega (arith, reads-deeper d, reads-deeper e)
reads-deeper (stop r d) = reads-deeper d
reads-deeper (again r d e) = omega (arith, reads-deeper d, reads-deeper e)
reads-deeper (leave r h d) = reads-deeper d
reads-deeper (enter r d e) = omega (arith, reads-deeper d, reads-deeper e)
reads-deeper (wrap {x = x} k d) = omega (arith, reads-deeper d)

up-symbol : (s : Symbol) (ss : List Symbol) (x z : Row) (rows : List Row) {ws us : List Word} → Reads factored (s ∷ []) x ws z us → nesting (up (s ∷ ss) x rows) ≤ nesting (up ss z rows)
up-symbol (Token t) ss x z rows d = up-mono ss x z rows (reads-deeper d)
up-symbol (One r) ss x z rows d = up-mono ss x z rows (reads-deeper d)
up-symbol (Optional r) ss x z rows d = up-mono ss x z rows (reads-deeper d)
up-symbol (Repeated r) ss x z rows d = up-mono ss x z rows (reads-deeper d)
up-symbol (Eager r) ss x z rows d = up-mono ss x z rows (reads-deeper d)
up-symbol (Wrap k) ss x z rows d = up-mono ss x z rows (reads-deeper d)
up-symbol (Close k) ss x z rows d = elim d [ ]

pub ends-deeper : {ss : List Symbol} {x : Row} {rows : List Row} {ws : List Word} {out : Row} → Ends ss x rows ws out → nesting (up ss x rows) ≤ nesting out
ends-deeper end = omega arith
ends-deeper (symbol {s = s} {ss = ss} {x = x} {z = z} {rows = rows} d e) = omega (arith, up-symbol s ss x z rows d, ends-deeper e)
ends-deeper (close k e) = ends-deeper e

-- ---- the trees of the machine

-- the row that trees show is nested as they are
then-deep : (p : Part) (k : SyntaxKind) (w : Word) (x y : Row) (n m : ℕ) → n ≤ nesting x → m ≤ nesting y → max (within_node p (level k + n)) m ≤ nesting (row_then p k w x y)
then-deep node k w x y n m a b = omega arith
then-deep word k w x y n m a b = omega arith
then-deep ignored k w x y n m a b = omega arith

shown-deep : (text : List ℕ) (f : Forest) → depth_of f ≤ nesting (shown text f)
shown-deep text nothing = omega arith
shown-deep text (tree_then k from to children behind) =
    then-deep (part_of k) k _ (shown text children) (shown text behind) (depth_of children) (depth_of behind) (shown-deep text children) (shown-deep text behind)

up-outer : (text : List ℕ) (k : SyntaxKind) (trees : List Plain) (rows : List (List Plain)) → nesting (shown_of text trees) ≤ nesting (up (Close k ∷ []) (shown_of text trees) (map (shown_of text) rows ++ (row.nothing ∷ [])))
up-outer text k trees [] = omega arith
up-outer text k trees (outer ∷ rows) = omega (arith, nesting-joined (shown_of text outer) (row.node k (shown_of text trees) row.nothing))

ended-deep : (text : List ℕ) (k : SyntaxKind) (stack : List Symbol) (trees : List Plain) (rows : List (List Plain)) → list_all makes_node stack ≡ true → closes stack ≡ length rows
    → depth_of (row_of (ended stack trees rows)) ≤ nesting (up (stack ++ (Close k ∷ [])) (shown_of text trees) (map (shown_of text) rows ++ (row.nothing ∷ [])))
ended-deep text k [] trees rows h e = omega (arith, shown-deep text (row_of trees), up-outer text k trees rows)
ended-deep text k (Close j ∷ stack) trees [] h e = absurd (omega (arith, e))
ended-deep text k (Close j ∷ stack) trees (outer ∷ rows) h e =
    let p = both _ _ h in
    let same : shown_of text (outer ++ (node_of j trees ∷ [])) ≡ with_node (shown_of text outer) j (shown_of text trees) =
    shown_of-append text outer (node_of j trees ∷ []) ∙ ap (λ z. joined (shown_of text outer) z) (shown_of-node text j trees p.0) in
    let even : closes stack ≡ length rows = omega (arith, e) in
    subst (λ (x : Row). depth_of (row_of (ended stack (outer ++ (node_of j trees ∷ [])) rows)) ≤ nesting (up (stack ++ (Close k ∷ [])) x (map (shown_of text) rows ++ (row.nothing ∷ []))))
    same (ended-deep text k stack (outer ++ (node_of j trees ∷ [])) rows p.1 even)
ended-deep text k (Wrap j ∷ stack) trees rows h e = ended-deep text k stack trees rows (both _ _ h).1 e
ended-deep text k (Token t ∷ stack) trees rows h e = ended-deep text k stack trees rows h e
ended-deep text k (One r ∷ stack) trees rows h e = ended-deep text k stack trees rows h e
ended-deep text k (Optional r ∷ stack) trees rows h e = ended-deep text k stack trees rows h e
ended-deep text k (Eager r ∷ stack) trees rows h e = ended-deep text k stack trees rows h e
ended-deep text k (Repeated r ∷ stack) trees rows h e = ended-deep text k stack trees rows h e

pub length-map : (text : List ℕ) (rows : List (List Plain)) → length (map (shown_of text) rows ++ (row.nothing ∷ [])) ≡ length rows + 1
length-map text [] = omega arith
length-map text (r ∷ rows) = omega (arith, length-map text rows)

-- a sentence that goes on from there is nested at least as deep
pub deeper : (start : Rule) (text : List ℕ) (begun : Bool) (s : State) (before : List Word) → IsSound s → Stood start text begun s before
    → (more : List Word) (other : Row) → Sentence start (before ++ more) other → s.deepest ≤ nesting other
deeper start text true s before sound stood more other d =
    let k = root_kind start in
    let ends = stood.between.onward more other (Sentence-ends d) in
    let even : closes (s.stack ++ (Close k ∷ [])) ≡ length (map (shown_of text) s.rows ++ (row.nothing ∷ [])) = stood.between.balanced in
    let rooted : closes (s.stack ++ (Close k ∷ [])) ≡ closes s.stack + 1 = closes-more s.stack (Close k ∷ []) in
    let balanced : closes s.stack ≡ length s.rows = omega (arith, even, rooted, length-map text s.rows) in
    omega (arith, sound.deepest, ended-deep text k s.stack s.row s.rows sound.nodes balanced, ends-deeper ends)
deeper start text false s before sound stood more other d =
    let none : s.deepest ≡ 0 = ap (λ x. x.deepest) stood.0 in
    omega arith
