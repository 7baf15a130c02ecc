-- Rows of trees that reach over what is in them, put together and ended.
use Rattle.std.proofs.Common.{◌≡◌, ◌-◌, true, List, [], ◌∷◌, ◌++◌, length, Option, Some, None, refl, ◌∙◌, ap, arith}
use Rattle.std.specs.List.{list_all, slice_get}
use Rattle.std.specs.Option.{option_map_or}
use Rattle.gql_grammar.specs.declared.rule.Rule.{Rule}
use Rattle.gql_grammar.specs.declared.symbol.Symbol.{Symbol}
use Rattle.gql_grammar.specs.declared.symbol.Symbol.TheVariants.{Token, One, Optional, Repeated, Eager, Wrap, Close}
use Rattle.gql_grammar.specs.declared.syntax_kind.SyntaxKind.{SyntaxKind}
use Rattle.gql_grammar.specs.Rule.{kind_of}
use Rattle.gql_cst.specs.Forest.{Plain, row_of}
use Rattle.gql_cst.specs.Leaves.{Part, word, ignored, node, part_of}
use Rattle.gql_cst.specs.bridge.Machine.{node_of, ended}
use Rattle.gql_cst.specs.Sentences.{kind_or, root_kind}
use Rattle.gql_cst.specs.bridge.Sound.{is_node, makes_node, EachSpan}
use Rattle.gql_cst.specs.Spans.{first_start, last_end_or, Spans, AllSpanIn}
use Rattle.gql_cst.proofs.Ways.{both, makes, kind_node}

pub spans-append : (xs ys : List Plain) → AllSpanIn xs → AllSpanIn ys → AllSpanIn (xs ++ ys)
spans-append [] ys h g = g
spans-append (x ∷ xs) ys h g = (h.0, (h.1.0, spans-append xs ys h.1.1 g))

first_is : (row : List Plain) → option_map_or (λ t. t.start) (slice_get row 0) 0 ≡ first_start (row_of row)
first_is [] = refl
first_is (x ∷ row) = refl

last_at : (x : Plain) (row : List Plain) → option_map_or (λ t. t.end) (slice_get (x ∷ row) (length row)) 0 ≡ last_end_or x.end (row_of row)
last_at x [] = refl
last_at x (y ∷ row) = last_at y row

last_is : (row : List Plain) → option_map_or (λ t. t.end) (slice_get row (length row - 1)) 0 ≡ last_end_or 0 (row_of row)
last_is [] = refl
last_is (x ∷ row) =
    let last : length (x ∷ row) - 1 ≡ length row = omega arith in
    ap (λ i. option_map_or (λ t. t.end) (slice_get (x ∷ row) i) 0) last ∙ last_at x row

then-spans : (p : Part) (kind : SyntaxKind) (row : List Plain) → is_node p ≡ true → Spans p (node_of kind row).start (node_of kind row).end (row_of row)
then-spans node kind row h = (first_is row, last_is row)
then-spans word kind row h = cc
then-spans ignored kind row h = cc

pub spans-node : (kind : SyntaxKind) (row : List Plain) → is_node (part_of kind) ≡ true → AllSpanIn row → AllSpanIn (node_of kind row ∷ [])
spans-node kind row h g = (then-spans (part_of kind) kind row h, (g, tt))

-- the node of a rule that has ended stands last in the row around it
pub spans-closed : (outer : List Plain) (kind : SyntaxKind) (row : List Plain) → is_node (part_of kind) ≡ true → AllSpanIn outer → AllSpanIn row
    → AllSpanIn (outer ++ (node_of kind row ∷ []))
spans-closed outer kind row h g k = spans-append outer (node_of kind row ∷ []) g (spans-node kind row h k)

pub spans-ended : (stack : List Symbol) (row : List Plain) (rows : List (List Plain)) → list_all makes_node stack ≡ true → AllSpanIn row → EachSpan rows
    → AllSpanIn (ended stack row rows)
spans-ended [] row rows h g k = g
spans-ended (Close kind ∷ stack) row [] h g k =
    let p = both _ _ h in spans-ended stack (node_of kind row ∷ []) [] p.1 (spans-node kind row p.0 g) tt
spans-ended (Close kind ∷ stack) row (outer ∷ rows) h g k =
    let p = both _ _ h in spans-ended stack (outer ++ (node_of kind row ∷ [])) rows p.1 (spans-closed outer kind row p.0 k.0 g) k.1
spans-ended (Wrap kind ∷ stack) row rows h g k = spans-ended stack row rows (both _ _ h).1 g k
spans-ended (Token terminal ∷ stack) row rows h g k = spans-ended stack row rows h g k
spans-ended (One rule ∷ stack) row rows h g k = spans-ended stack row rows h g k
spans-ended (Optional rule ∷ stack) row rows h g k = spans-ended stack row rows h g k
spans-ended (Eager rule ∷ stack) row rows h g k = spans-ended stack row rows h g k
spans-ended (Repeated rule ∷ stack) row rows h g k = spans-ended stack row rows h g k

root_of : (kind : Option SyntaxKind) → makes kind ≡ true → is_node (part_of (kind_or kind)) ≡ true
root_of None h = refl
root_of (Some kind) h = h

-- the whole text is a node
pub root_node : (start : Rule) → is_node (part_of (root_kind start)) ≡ true
root_node start = root_of (kind_of start) (kind_node start)
