-- The words that were read stand in the same levels in each sentence that goes on from there.
use Rattle.std.proofs.Common.{◌≡◌, ℕ, ◌+◌, Bool, true, false, ◌&&◌, length, take, List, [], ◌∷◌, ◌++◌, map, refl, ◌∙◌, sym, ap, subst, append_assoc, arith}
use Rattle.std.specs.Prelude.{◌==◌}
use Rattle.std.specs.List.{list_all}
use Rattle.std.proofs.lemmas.Bool.{eqb-true}
use Rattle.std.proofs.Math.Seq.{take-append_seam}
use Rattle.gql_grammar.specs.declared.word.Word.{Word}
use Rattle.gql_grammar.specs.declared.rule.Rule.{Rule}
use Rattle.gql_grammar.specs.declared.rule.Rule.TheVariants.{Document}
use Rattle.gql_grammar.specs.declared.symbol.Symbol.{Symbol}
use Rattle.gql_grammar.specs.declared.symbol.Symbol.TheVariants.{Token, One, Optional, Repeated, Eager, Wrap, Close}
use Rattle.gql_grammar.specs.declared.syntax_kind.SyntaxKind.{SyntaxKind}
use Rattle.gql_grammar.specs.bridge.Ends.{Ends, end, symbol, close, closes}
use Rattle.gql_grammar.specs.Factored.{factored}
use Rattle.gql_grammar.specs.Reads.{Reads, IsOneOf, here, there, done, token, tree, group, skip, take as take_rule, stop, again, leave, enter, wrap}
use Rattle.gql_grammar.specs.Row as row
use Rattle.gql_grammar.specs.Row.{Row, joined, with_leaf, with_node, level}
use Rattle.gql_grammar.proofs.Turns.{Sentence-ends}
use Rattle.gql_grammar.proofs.Rooted.{closes-more}
use Rattle.gql_cst.specs.Forest.{Plain}
use Rattle.gql_cst.specs.Late.{is_late}
use Rattle.gql_cst.specs.Leaves.{part_of}
use Rattle.gql_cst.specs.Levels.{raised, levels, AreLevels}
use Rattle.gql_cst.specs.bridge.Machine.{State, node_of, ended, all_ended}
use Rattle.gql_cst.specs.Sentences.{root_kind}
use Rattle.gql_cst.specs.bridge.Sentences.{shown_of, Stood}
use Rattle.gql_cst.specs.bridge.Sound.{is_node, makes_node, IsSound}
use Rattle.gql_cst.proofs.Deeper.{up, length-map}
use Rattle.gql_cst.proofs.Levels.{append_none, raised-append, raised-zero, levels-joined, around}
use Rattle.gql_cst.proofs.Shown.{shown_of-append, shown_of-node}
use Rattle.gql_cst.proofs.Ways.{both}

-- ---- the one list is the front of the other

abbrev Front : List ℕ → List ℕ → Type 0
Front xs ys = (rest : List ℕ) × (ys ≡ xs ++ rest)

front-self : (xs : List ℕ) → Front xs xs
front-self xs = ([], sym (append_none xs))

front-of : (xs ys zs : List ℕ) → ys ≡ xs ++ zs → Front xs ys
front-of xs ys zs e = (zs, e)

front-then : (xs ys zs : List ℕ) → Front xs ys → Front ys zs → Front xs zs
front-then xs ys zs p q = (p.0 ++ q.0, q.1 ∙ ap (λ z. z ++ q.0) p.1 ∙ append_assoc xs p.0 q.0)

front-along : (xs ys zs : List ℕ) → xs ≡ ys → Front ys zs → Front xs zs
front-along xs ys zs e p = (p.0, p.1 ∙ ap (λ z. z ++ p.0) (sym e))

-- the same in a node of a row
front-node : (x y : Row) (k : SyntaxKind) (z : Row) → Front (levels x) (levels y) → Front (levels (with_node z k x)) (levels (with_node z k y))
front-node x y k z p =
    let start = levels z in
    let n = level k in
    let one : levels (with_node z k x) ≡ start ++ raised n (levels x) =
    levels-joined z (row.node k x row.nothing) ∙ ap (λ l. start ++ l) (append_none (raised n (levels x))) in
    let other : levels (with_node z k y) ≡ start ++ raised n (levels y) =
    levels-joined z (row.node k y row.nothing) ∙ ap (λ l. start ++ l) (append_none (raised n (levels y))) in
    let e : levels (with_node z k y) ≡ levels (with_node z k x) ++ raised n p.0 =
    other ∙ ap (λ l. start ++ raised n l) p.1 ∙ ap (λ l. start ++ l) (raised-append n (levels x) p.0)
    ∙ sym (append_assoc start (raised n (levels x)) (raised n p.0)) ∙ ap (λ l. l ++ raised n p.0) (sym one) in
    (raised n p.0, e)

-- ---- what is read comes behind what was there

abbrev flat : Symbol → Bool
flat (Wrap kind) = level kind == 0
flat (Close kind) = true
flat (Token terminal) = true
flat (One rule) = true
flat (Optional rule) = true
flat (Eager rule) = true
flat (Repeated rule) = true

ways_flat : (r : Rule) → list_all (list_all flat) (factored r) ≡ true
ways_flat Document = refl
ways_flat _ = refl

one_flat : {a : List Symbol} {ways : List (List Symbol)} → IsOneOf a ways → list_all (list_all flat) ways ≡ true → list_all flat a ≡ true
one_flat {a = a} here h = (both (list_all flat a) _ h).0
one_flat (there {other = other} m) h = one_flat m (both (list_all flat other) _ h).1

flat_wrap : (k : SyntaxKind) (x : Row) → level k ≡ 0 → levels (row.node k x row.nothing) ≡ levels x
flat_wrap k x e = append_none (raised (level k) (levels x)) ∙ ap (λ n. raised n (levels x)) e ∙ raised-zero (levels x)

reads-front : {ss : List Symbol} {x y : Row} {ws vs : List Word} → Reads factored ss x ws y vs → list_all flat ss ≡ true → Front (levels x) (levels y)
reads-front {x = x} done h = front-self (levels x)
reads-front {y = y} (token {x = x} t w m d) h =
    front-then (levels x) (levels (with_leaf x w)) (levels y) (front-of _ _ _ (levels-joined x (row.leaf w row.nothing))) (reads-front d h)
reads-front {y = y} (tree {x = x} r k way inner i m d e) h =
    front-then (levels x) (levels (with_node x k inner)) (levels y) (front-of _ _ _ (levels-joined x (row.node k inner row.nothing))) (reads-front e h)
reads-front {x = x} {y = y} (group {z = z} r way i m d e) h =
    front-then (levels x) (levels z) (levels y) (reads-front d (one_flat m (ways_flat r))) (reads-front e h)
reads-front (skip r d) h = reads-front d h
reads-front {x = x} {y = y} (take_rule {z = z} r d e) h = front-then (levels x) (levels z) (levels y) (reads-front d refl) (reads-front e h)
reads-front (stop r d) h = reads-front d h
reads-front {x = x} {y = y} (again {z = z} r d e) h = front-then (levels x) (levels z) (levels y) (reads-front d refl) (reads-front e h)
reads-front (leave r i d) h = reads-front d h
reads-front {x = x} {y = y} (enter {z = z} r d e) h = front-then (levels x) (levels z) (levels y) (reads-front d refl) (reads-front e h)
reads-front {y = y} (wrap {x = x} k d) h =
    let p = both (level k == 0) _ h in
    front-along (levels x) (levels (row.node k x row.nothing)) (levels y) (sym (flat_wrap k x (eqb-true (level k) 0 p.0))) (reads-front d p.1)

-- ---- the same once the open nodes have ended

up-front : (ss : List Symbol) (x y : Row) (rows : List Row) → Front (levels x) (levels y) → Front (levels (up ss x rows)) (levels (up ss y rows))
up-front [] x y rows h = h
up-front (Close k ∷ ss) x y [] h = up-front ss (row.node k x row.nothing) (row.node k y row.nothing) [] (front-node x y k row.nothing h)
up-front (Close k ∷ ss) x y (z ∷ rows) h = up-front ss (with_node z k x) (with_node z k y) rows (front-node x y k z h)
up-front (Token t ∷ ss) x y rows h = up-front ss x y rows h
up-front (One r ∷ ss) x y rows h = up-front ss x y rows h
up-front (Optional r ∷ ss) x y rows h = up-front ss x y rows h
up-front (Repeated r ∷ ss) x y rows h = up-front ss x y rows h
up-front (Eager r ∷ ss) x y rows h = up-front ss x y rows h
up-front (Wrap k ∷ ss) x y rows h = up-front ss x y rows h

one_of : (s : Symbol) (ss : List Symbol) → list_all flat (s ∷ ss) ≡ true → list_all flat (s ∷ []) ≡ true
one_of (Wrap k) ss h = wrap_flat (level k == 0) _ h
  where
    wrap_flat : (a b : Bool) → (a && b) ≡ true → (a && true) ≡ true
    wrap_flat true b g = refl
    wrap_flat false b g = cc
one_of (Close k) ss h = refl
one_of (Token t) ss h = refl
one_of (One r) ss h = refl
one_of (Optional r) ss h = refl
one_of (Repeated r) ss h = refl
one_of (Eager r) ss h = refl

rest_of : (s : Symbol) (ss : List Symbol) → list_all flat (s ∷ ss) ≡ true → list_all flat ss ≡ true
rest_of s ss h = (both (flat s) _ h).1

up-symbol : (s : Symbol) (ss : List Symbol) (x z : Row) (rows : List Row) {ws us : List Word} → Reads factored (s ∷ []) x ws z us → list_all flat (s ∷ []) ≡ true
    → Front (levels (up (s ∷ ss) x rows)) (levels (up ss z rows))
up-symbol (Token t) ss x z rows d h = up-front ss x z rows (reads-front d h)
up-symbol (One r) ss x z rows d h = up-front ss x z rows (reads-front d h)
up-symbol (Optional r) ss x z rows d h = up-front ss x z rows (reads-front d h)
up-symbol (Repeated r) ss x z rows d h = up-front ss x z rows (reads-front d h)
up-symbol (Eager r) ss x z rows d h = up-front ss x z rows (reads-front d h)
up-symbol (Wrap k) ss x z rows d h = up-front ss x z rows (reads-front d h)
up-symbol (Close k) ss x z rows d h = elim d [ ]

ends-front : {ss : List Symbol} {x : Row} {rows : List Row} {ws : List Word} {out : Row} → Ends ss x rows ws out → list_all flat ss ≡ true
    → Front (levels (up ss x rows)) (levels out)
ends-front {out = out} end h = front-self (levels out)
ends-front {out = out} (symbol {s = s} {ss = ss} {x = x} {z = z} {rows = rows} d e) h =
    front-then (levels (up (s ∷ ss) x rows)) (levels (up ss z rows)) (levels out) (up-symbol s ss x z rows d (one_of s ss h)) (ends-front e (rest_of s ss h))
ends-front (close k e) h = ends-front e h

-- ---- the trees of the machine

made_flat : (ss : List Symbol) (k : SyntaxKind) → list_all makes_node ss ≡ true → list_all flat (ss ++ (Close k ∷ [])) ≡ true
made_flat [] k h = refl
made_flat (Close j ∷ ss) k h = made_flat ss k (both (is_node (part_of j)) _ h).1
made_flat (Wrap j ∷ ss) k h =
    let p = both (is_node (part_of j) && (level j == 0 && is_late j)) (list_all makes_node ss) h in
    let q = both (level j == 0) (is_late j) (both (is_node (part_of j)) _ p.0).1 in
    let more = made_flat ss k p.1 in
    rw (q.0, more) refl
made_flat (Token t ∷ ss) k h = made_flat ss k h
made_flat (One r ∷ ss) k h = made_flat ss k h
made_flat (Optional r ∷ ss) k h = made_flat ss k h
made_flat (Repeated r ∷ ss) k h = made_flat ss k h
made_flat (Eager r ∷ ss) k h = made_flat ss k h

ended-up : (text : List ℕ) (k : SyntaxKind) (stack : List Symbol) (trees : List Plain) (rows : List (List Plain)) → level k ≡ 0 → list_all makes_node stack ≡ true → closes stack ≡ length rows
    → levels (up (stack ++ (Close k ∷ [])) (shown_of text trees) (map (shown_of text) rows ++ (row.nothing ∷ []))) ≡ around text (ended stack trees rows)
ended-up text k [] trees [] root h e = flat_wrap k (shown_of text trees) root
ended-up text k [] trees (outer ∷ rows) root h e = absurd (omega (arith, e))
ended-up text k (Close j ∷ stack) trees [] root h e = absurd (omega (arith, e))
ended-up text k (Close j ∷ stack) trees (outer ∷ rows) root h e =
    let p = both (is_node (part_of j)) (list_all makes_node stack) h in
    let same : shown_of text (outer ++ (node_of j trees ∷ [])) ≡ with_node (shown_of text outer) j (shown_of text trees) =
    shown_of-append text outer (node_of j trees ∷ []) ∙ ap (λ z. joined (shown_of text outer) z) (shown_of-node text j trees p.0) in
    let even : closes stack ≡ length rows = omega (arith, e) in
    let more = ended-up text k stack (outer ++ (node_of j trees ∷ [])) rows root p.1 even in
    subst (λ (x : Row). levels (up (stack ++ (Close k ∷ [])) x (map (shown_of text) rows ++ (row.nothing ∷ []))) ≡ around text (ended stack (outer ++ (node_of j trees ∷ [])) rows)) same more
ended-up text k (Wrap j ∷ stack) trees rows root h e = ended-up text k stack trees rows root (both (is_node (part_of j) && (level j == 0 && is_late j)) (list_all makes_node stack) h).1 e
ended-up text k (Token t ∷ stack) trees rows root h e = ended-up text k stack trees rows root h e
ended-up text k (One r ∷ stack) trees rows root h e = ended-up text k stack trees rows root h e
ended-up text k (Optional r ∷ stack) trees rows root h e = ended-up text k stack trees rows root h e
ended-up text k (Repeated r ∷ stack) trees rows root h e = ended-up text k stack trees rows root h e
ended-up text k (Eager r ∷ stack) trees rows root h e = ended-up text k stack trees rows root h e

take_front : (n : ℕ) (xs ys : List ℕ) → length xs ≡ n → Front xs ys → take n ys ≡ xs
take_front n xs ys e p = ap (λ k. take k ys) (sym e) ∙ ap (λ zs. take (length xs) zs) p.1 ∙ take-append_seam xs p.0

no_number : (n : ℕ) (xs ys : List ℕ) → length xs ≡ n → n ≡ 0 → take n ys ≡ xs
no_number n [] ys e z = ap (λ k. take k ys) z
no_number n (x ∷ xs) ys e z = absurd (omega (arith, e, z))

-- in each sentence that goes on from there the words stand in the levels of the machine's trees
pub stood_levels : (start : Rule) (text : List ℕ) (begun : Bool) (s : State) (before : List Word) (around_words : List ℕ) → level (root_kind start) ≡ 0 → IsSound s → Stood start text begun s before
    → around_words ≡ around text (all_ended s) → length around_words ≡ length before → AreLevels start before around_words
stood_levels start text true s before ls root sound stood same each more other d =
    let k = root_kind start in
    let ends = stood.between.onward more other (Sentence-ends d) in
    let even : closes (s.stack ++ (Close k ∷ [])) ≡ length (map (shown_of text) s.rows ++ (row.nothing ∷ [])) = stood.between.balanced in
    let rooted : closes (s.stack ++ (Close k ∷ [])) ≡ closes s.stack + 1 = closes-more s.stack (Close k ∷ []) in
    let balanced : closes s.stack ≡ length s.rows = omega (arith, even, rooted, length-map text s.rows) in
    let front = ends-front ends (made_flat s.stack k sound.nodes) in
    let is = same ∙ sym (ended-up text k s.stack s.row s.rows root sound.nodes balanced) in
    take_front (length before) ls (levels other) each (front-along ls _ (levels other) is front)
stood_levels start text false s before ls root sound stood same each more other d =
    no_number (length before) ls (levels other) each (ap length stood.1)
