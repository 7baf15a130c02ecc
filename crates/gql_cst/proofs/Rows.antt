-- Rows of trees: what their tokens and their nesting are once the nodes that are open have ended.
use Rattle.std.proofs.Common.{◌≡◌, ℕ, ◌+◌, max, Bool, true, ◌&&◌, List, [], ◌∷◌, ◌++◌, refl, ◌∙◌, sym, ap, append_assoc, arith}
use Rattle.std.specs.List.{list_all}
use Rattle.gql_grammar.specs.declared.symbol.Symbol.{Symbol}
use Rattle.gql_grammar.specs.declared.symbol.Symbol.TheVariants.{Token, One, Optional, Repeated, Eager, Wrap, Close}
use Rattle.gql_grammar.specs.declared.syntax_kind.SyntaxKind.{SyntaxKind}
use Rattle.gql_grammar.specs.Row.{level}
use Rattle.gql_cst.specs.Forest.{Plain}
use Rattle.gql_cst.specs.Leaves.{Part, word, ignored, node, part_of, Leaf, own_leaf, leaves}
use Rattle.gql_cst.specs.bridge.Leaves.{leaves_of}
use Rattle.gql_cst.specs.Nesting.{within_node}
use Rattle.gql_cst.specs.bridge.Nesting.{nesting_of}
use Rattle.gql_cst.specs.bridge.Machine.{node_of, ended}
use Rattle.gql_cst.specs.bridge.Sound.{is_node, makes_node, depth}
use Rattle.gql_cst.specs.bridge.Frames.{is_loose}
use Rattle.gql_cst.proofs.Ways.{both}

-- ---- rows put together

pub leaves_of-append : (xs ys : List Plain) → leaves_of (xs ++ ys) ≡ leaves_of xs ++ leaves_of ys
leaves_of-append [] ys = refl
leaves_of-append (x ∷ xs) ys = let front = own_leaf (part_of x.kind) x.start x.end ++ leaves x.children in
    ap (λ behind. front ++ behind) (leaves_of-append xs ys) ∙ sym (append_assoc front (leaves_of xs) (leaves_of ys))

pub nesting_of-append : (xs ys : List Plain) → nesting_of (xs ++ ys) ≡ max (nesting_of xs) (nesting_of ys)
nesting_of-append [] ys = omega arith
nesting_of-append (x ∷ xs) ys = omega (arith, nesting_of-append xs ys)

no_leaf : (p : Part) (start end : ℕ) → is_node p ≡ true → own_leaf p start end ≡ []
no_leaf node start end h = refl
no_leaf word start end h = cc
no_leaf ignored start end h = cc

pub append_nil : (xs : List Leaf) → xs ++ [] ≡ xs
append_nil [] = refl
append_nil (x ∷ xs) = ap (λ ys. x ∷ ys) (append_nil xs)

pub leaves_of-node : (kind : SyntaxKind) (row : List Plain) → is_node (part_of kind) ≡ true → leaves_of (node_of kind row ∷ []) ≡ leaves_of row
leaves_of-node kind row h = rw (no_leaf (part_of kind) _ _ h) (append_nil (leaves_of row))

within-is : (p : Part) (n : ℕ) → is_node p ≡ true → within_node p n ≡ n
within-is node n h = refl
within-is word n h = cc
within-is ignored n h = cc

pub nesting_of-node : (kind : SyntaxKind) (row : List Plain) → is_node (part_of kind) ≡ true → nesting_of (node_of kind row ∷ []) ≡ level kind + nesting_of row
nesting_of-node kind row h = omega (arith, within-is (part_of kind) (level kind + nesting_of row) h)

-- ---- rows whose nodes have ended

pub ended-loose : (way stack : List Symbol) (row : List Plain) (rows : List (List Plain)) → list_all is_loose way ≡ true → ended (way ++ stack) row rows ≡ ended stack row rows
ended-loose [] stack row rows h = refl
ended-loose (Close kind ∷ way) stack row rows h = cc
ended-loose (Wrap kind ∷ way) stack row rows h = ended-loose way stack row rows (both _ _ h).1
ended-loose (Token terminal ∷ way) stack row rows h = ended-loose way stack row rows h
ended-loose (One rule ∷ way) stack row rows h = ended-loose way stack row rows h
ended-loose (Optional rule ∷ way) stack row rows h = ended-loose way stack row rows h
ended-loose (Eager rule ∷ way) stack row rows h = ended-loose way stack row rows h
ended-loose (Repeated rule ∷ way) stack row rows h = ended-loose way stack row rows h

-- the tokens of the innermost row come last
pub leaves_of-ended : (stack : List Symbol) (row : List Plain) (rows : List (List Plain)) → list_all makes_node stack ≡ true
    → leaves_of (ended stack row rows) ≡ leaves_of (ended stack [] rows) ++ leaves_of row
leaves_of-ended [] row rows h = refl
leaves_of-ended (Close kind ∷ stack) row [] h =
    let p = both _ _ h in
    let e = leaves_of-ended stack (node_of kind row ∷ []) [] p.1 in
    let f = leaves_of-ended stack (node_of kind [] ∷ []) [] p.1 in
    let g = leaves_of-node kind row p.0 in
    let k = leaves_of-node kind [] p.0 in
    e ∙ ap (λ z. leaves_of (ended stack [] []) ++ z) g ∙ ap (λ z. z ++ leaves_of row) (sym (f ∙ ap (λ z. leaves_of (ended stack [] []) ++ z) k ∙ append_nil _))
leaves_of-ended (Close kind ∷ stack) row (outer ∷ rows) h =
    let p = both _ _ h in
    let start = leaves_of (ended stack [] rows) in
    let e = leaves_of-ended stack (outer ++ (node_of kind row ∷ [])) rows p.1 in
    let f = leaves_of-ended stack (outer ++ (node_of kind [] ∷ [])) rows p.1 in
    let g = leaves_of-append outer (node_of kind row ∷ []) ∙ ap (λ z. leaves_of outer ++ z) (leaves_of-node kind row p.0) in
    let k = leaves_of-append outer (node_of kind [] ∷ []) ∙ ap (λ z. leaves_of outer ++ z) (leaves_of-node kind [] p.0) ∙ append_nil _ in
    e ∙ ap (λ z. start ++ z) g ∙ sym (append_assoc start (leaves_of outer) (leaves_of row)) ∙ ap (λ z. z ++ leaves_of row) (sym (f ∙ ap (λ z. start ++ z) k))
leaves_of-ended (Wrap kind ∷ stack) row rows h = leaves_of-ended stack row rows (both _ _ h).1
leaves_of-ended (Token terminal ∷ stack) row rows h = leaves_of-ended stack row rows h
leaves_of-ended (One rule ∷ stack) row rows h = leaves_of-ended stack row rows h
leaves_of-ended (Optional rule ∷ stack) row rows h = leaves_of-ended stack row rows h
leaves_of-ended (Eager rule ∷ stack) row rows h = leaves_of-ended stack row rows h
leaves_of-ended (Repeated rule ∷ stack) row rows h = leaves_of-ended stack row rows h

-- around the innermost row stand the levels that are open
pub nesting_of-ended : (stack : List Symbol) (row : List Plain) (rows : List (List Plain)) → list_all makes_node stack ≡ true
    → nesting_of (ended stack row rows) ≡ max (depth stack + nesting_of row) (nesting_of (ended stack [] rows))
nesting_of-ended [] row rows h = omega arith
nesting_of-ended (Close kind ∷ stack) row [] h =
    let p = both (is_node (part_of kind)) (list_all makes_node stack) h in
    omega (arith, nesting_of-ended stack (node_of kind row ∷ []) [] p.1, nesting_of-ended stack (node_of kind [] ∷ []) [] p.1, nesting_of-node kind row p.0, nesting_of-node kind [] p.0)
nesting_of-ended (Close kind ∷ stack) row (outer ∷ rows) h =
    let p = both (is_node (part_of kind)) (list_all makes_node stack) h in
    omega (
      arith,
      nesting_of-ended stack (outer ++ (node_of kind row ∷ [])) rows p.1,
      nesting_of-ended stack (outer ++ (node_of kind [] ∷ [])) rows p.1,
      nesting_of-append outer (node_of kind row ∷ []),
      nesting_of-append outer (node_of kind [] ∷ []),
      nesting_of-node kind row p.0,
      nesting_of-node kind [] p.0,
    )
nesting_of-ended (Wrap kind ∷ stack) row rows h = nesting_of-ended stack row rows (both _ _ h).1
nesting_of-ended (Token terminal ∷ stack) row rows h = nesting_of-ended stack row rows h
nesting_of-ended (One rule ∷ stack) row rows h = nesting_of-ended stack row rows h
nesting_of-ended (Optional rule ∷ stack) row rows h = nesting_of-ended stack row rows h
nesting_of-ended (Eager rule ∷ stack) row rows h = nesting_of-ended stack row rows h
nesting_of-ended (Repeated rule ∷ stack) row rows h = nesting_of-ended stack row rows h

pub depth-loose : (way stack : List Symbol) → list_all is_loose way ≡ true → depth (way ++ stack) ≡ depth stack
depth-loose [] stack h = refl
depth-loose (Close kind ∷ way) stack h = cc
depth-loose (Wrap kind ∷ way) stack h = depth-loose way stack (both _ _ h).1
depth-loose (Token terminal ∷ way) stack h = depth-loose way stack h
depth-loose (One rule ∷ way) stack h = depth-loose way stack h
depth-loose (Optional rule ∷ way) stack h = depth-loose way stack h
depth-loose (Eager rule ∷ way) stack h = depth-loose way stack h
depth-loose (Repeated rule ∷ way) stack h = depth-loose way stack h

pub join : (a b : Bool) → a ≡ true → b ≡ true → (a && b) ≡ true
join a b p q = rw (p, q) refl

pub makes_node-loose : (way stack : List Symbol) → list_all is_loose way ≡ true → list_all makes_node stack ≡ true → list_all makes_node (way ++ stack) ≡ true
makes_node-loose [] stack h g = g
makes_node-loose (Close kind ∷ way) stack h g = cc
makes_node-loose (Wrap kind ∷ way) stack h g = join _ _ (both _ _ h).0 (makes_node-loose way stack (both _ _ h).1 g)
makes_node-loose (Token terminal ∷ way) stack h g = makes_node-loose way stack h g
makes_node-loose (One rule ∷ way) stack h g = makes_node-loose way stack h g
makes_node-loose (Optional rule ∷ way) stack h g = makes_node-loose way stack h g
makes_node-loose (Eager rule ∷ way) stack h g = makes_node-loose way stack h g
makes_node-loose (Repeated rule ∷ way) stack h g = makes_node-loose way stack h g
