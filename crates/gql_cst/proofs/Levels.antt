-- Levels around words: of rows put together, and of rows whose open nodes have ended.
use Rattle.std.proofs.Common.{◌≡◌, ℕ, ◌+◌, max, true, List, [], ◌∷◌, ◌++◌, refl, ◌∙◌, sym, ap, append_assoc, arith}
use Rattle.std.specs.List.{list_all}
use Rattle.gql_grammar.specs.declared.symbol.Symbol.{Symbol}
use Rattle.gql_grammar.specs.declared.symbol.Symbol.TheVariants.{Token, One, Optional, Repeated, Eager, Wrap, Close}
use Rattle.gql_grammar.specs.declared.syntax_kind.SyntaxKind.{SyntaxKind}
use Rattle.gql_grammar.specs.Row as row
use Rattle.gql_grammar.specs.Row.{Row, level, joined}
use Rattle.gql_cst.specs.Forest.{Plain}
use Rattle.gql_cst.specs.Leaves.{part_of}
use Rattle.gql_cst.specs.Levels.{raised, levels, greatest}
use Rattle.gql_cst.specs.bridge.Machine.{node_of, ended}
use Rattle.gql_cst.specs.bridge.Sentences.{shown_of}
use Rattle.gql_cst.specs.bridge.Sound.{is_node, makes_node, depth}
use Rattle.gql_cst.proofs.Shown.{shown_of-append, shown_of-node}
use Rattle.gql_cst.proofs.Ways.{both}

-- ---- lists of numbers

pub append_none : (xs : List ℕ) → xs ++ [] ≡ xs
append_none [] = refl
append_none (x ∷ xs) = ap (λ ys. x ∷ ys) (append_none xs)

pub raised-append : (n : ℕ) (xs ys : List ℕ) → raised n (xs ++ ys) ≡ raised n xs ++ raised n ys
raised-append n [] ys = refl
raised-append n (x ∷ xs) ys = ap (λ zs. (n + x) ∷ zs) (raised-append n xs ys)

head_sum : (m n x : ℕ) (xs : List ℕ) → (m + (n + x)) ∷ xs ≡ ((n + m) + x) ∷ xs
head_sum m n x xs = ap (λ y. y ∷ xs) (omega arith)

pub raised-raised : (m n : ℕ) (xs : List ℕ) → raised m (raised n xs) ≡ raised (n + m) xs
raised-raised m n [] = refl
raised-raised m n (x ∷ xs) = ap (λ zs. (m + (n + x)) ∷ zs) (raised-raised m n xs) ∙ head_sum m n x (raised (n + m) xs)

pub raised-zero : (xs : List ℕ) → raised 0 xs ≡ xs
raised-zero [] = refl
raised-zero (x ∷ xs) = ap (λ zs. (0 + x) ∷ zs) (raised-zero xs) ∙ ap (λ y. y ∷ xs) (plus_none x)
  where
    plus_none : (n : ℕ) → 0 + n ≡ n
    plus_none n = omega arith

pub greatest-append : (xs ys : List ℕ) → greatest (xs ++ ys) ≡ max (greatest xs) (greatest ys)
greatest-append [] ys = omega arith
greatest-append (x ∷ xs) ys = omega (arith, greatest-append xs ys)

-- ---- rows

pub levels-joined : (x y : Row) → levels (joined x y) ≡ levels x ++ levels y
levels-joined row.nothing y = refl
levels-joined (row.leaf w x) y = ap (λ zs. 0 ∷ zs) (levels-joined x y)
levels-joined (row.node k inner x) y =
    let front = raised (level k) (levels inner) in
    ap (λ zs. front ++ zs) (levels-joined x y) ∙ sym (append_assoc front (levels x) (levels y))

-- ---- trees

abbrev pub around : List ℕ → List Plain → List ℕ
around text trees = levels (shown_of text trees)

pub around-append : (text : List ℕ) (xs ys : List Plain) → around text (xs ++ ys) ≡ around text xs ++ around text ys
around-append text xs ys = ap levels (shown_of-append text xs ys) ∙ levels-joined (shown_of text xs) (shown_of text ys)

pub around-node : (text : List ℕ) (kind : SyntaxKind) (trees : List Plain) → is_node (part_of kind) ≡ true → around text (node_of kind trees ∷ []) ≡ raised (level kind) (around text trees)
around-node text kind trees h = ap levels (shown_of-node text kind trees h) ∙ append_none _

-- one more node in a row
around-grown : (text : List ℕ) (kind : SyntaxKind) (outer trees : List Plain) → is_node (part_of kind) ≡ true
    → around text (outer ++ (node_of kind trees ∷ [])) ≡ around text outer ++ raised (level kind) (around text trees)
around-grown text kind outer trees h =
    around-append text outer (node_of kind trees ∷ []) ∙ ap (λ z. around text outer ++ z) (around-node text kind trees h)

-- around the innermost row stand the levels that are open
pub around-ended : (text : List ℕ) (stack : List Symbol) (trees : List Plain) (rows : List (List Plain)) → list_all makes_node stack ≡ true
    → around text (ended stack trees rows) ≡ around text (ended stack [] rows) ++ raised (depth stack) (around text trees)
around-ended text [] trees rows h = sym (raised-zero (around text trees))
around-ended text (Close kind ∷ stack) trees [] h =
    let p = both (is_node (part_of kind)) (list_all makes_node stack) h in
    let start = around text (ended stack [] []) in
    let d = depth stack in
    let full = around-ended text stack (node_of kind trees ∷ []) [] p.1 ∙ ap (λ z. start ++ raised d z) (around-node text kind trees p.0)
    ∙ ap (λ z. start ++ z) (raised-raised d (level kind) (around text trees)) in
    let none = around-ended text stack (node_of kind [] ∷ []) [] p.1 ∙ ap (λ z. start ++ raised d z) (around-node text kind [] p.0) ∙ append_none start in
    full ∙ ap (λ z. z ++ raised (level kind + d) (around text trees)) (sym none)
around-ended text (Close kind ∷ stack) trees (outer ∷ rows) h =
    let p = both (is_node (part_of kind)) (list_all makes_node stack) h in
    let start = around text (ended stack [] rows) in
    let d = depth stack in
    let own = around text trees in
    let full = around-ended text stack (outer ++ (node_of kind trees ∷ [])) rows p.1 ∙ ap (λ z. start ++ raised d z) (around-grown text kind outer trees p.0)
    ∙ ap (λ z. start ++ z) (raised-append d (around text outer) (raised (level kind) own) ∙ ap (λ z. raised d (around text outer) ++ z) (raised-raised d (level kind) own))
    ∙ sym (append_assoc start (raised d (around text outer)) (raised (level kind + d) own)) in
    let none = around-ended text stack (outer ++ (node_of kind [] ∷ [])) rows p.1
    ∙ ap (λ z. start ++ raised d z) (around-grown text kind outer [] p.0 ∙ append_none (around text outer)) in
    full ∙ ap (λ z. z ++ raised (level kind + d) own) (sym none)
around-ended text (Wrap kind ∷ stack) trees rows h = around-ended text stack trees rows (both _ _ h).1
around-ended text (Token terminal ∷ stack) trees rows h = around-ended text stack trees rows h
around-ended text (One rule ∷ stack) trees rows h = around-ended text stack trees rows h
around-ended text (Optional rule ∷ stack) trees rows h = around-ended text stack trees rows h
around-ended text (Eager rule ∷ stack) trees rows h = around-ended text stack trees rows h
around-ended text (Repeated rule ∷ stack) trees rows h = around-ended text stack trees rows h

-- rows with the same levels stay alike
pub around-alike : (text : List ℕ) (stack : List Symbol) (one other : List Plain) (rows : List (List Plain)) → list_all makes_node stack ≡ true
    → around text one ≡ around text other → around text (ended stack one rows) ≡ around text (ended stack other rows)
around-alike text stack one other rows h e =
    around-ended text stack one rows h ∙ ap (λ z. around text (ended stack [] rows) ++ raised (depth stack) z) e ∙ sym (around-ended text stack other rows h)

-- an open node without trees
pub around-opened : (text : List ℕ) (kind : SyntaxKind) (outer : List Plain) → is_node (part_of kind) ≡ true → around text (outer ++ (node_of kind [] ∷ [])) ≡ around text outer
around-opened text kind outer h = around-grown text kind outer [] h ∙ append_none (around text outer)

pub around-wrapped : (text : List ℕ) (kind : SyntaxKind) (trees : List Plain) → is_node (part_of kind) ≡ true → level kind ≡ 0 → around text (node_of kind trees ∷ []) ≡ around text trees
around-wrapped text kind trees h flat = around-node text kind trees h ∙ ap (λ n. raised n (around text trees)) flat ∙ raised-zero (around text trees)
