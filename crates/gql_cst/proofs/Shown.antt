-- The rows that trees show.
use Rattle.std.proofs.Common.{◌≡◌, ℕ, true, List, [], ◌∷◌, ◌++◌, refl, ◌∙◌, ap}
use Rattle.std.specs.Prelude.{slice_range}
use Rattle.gql_grammar.specs.declared.word.Word.{Word}
use Rattle.gql_grammar.specs.declared.syntax_kind.SyntaxKind.{SyntaxKind}
use Rattle.gql_grammar.specs.Row as row
use Rattle.gql_grammar.specs.Row.{Row, joined}
use Rattle.gql_cst.specs.Forest.{Plain}
use Rattle.gql_cst.specs.Leaves.{Part, word, ignored, node, part_of}
use Rattle.gql_cst.specs.bridge.Machine.{node_of}
use Rattle.gql_cst.specs.Sentences.{row_then, shown}
use Rattle.gql_cst.specs.bridge.Sentences.{shown_of}
use Rattle.gql_cst.specs.bridge.Sound.{is_node}
use Rattle.gql_cst.specs.Words.{word_of}

then-joined : (p : Part) (kind : SyntaxKind) (w : Word) (x y z : Row) → row_then p kind w x (joined y z) ≡ joined (row_then p kind w x y) z
then-joined word kind w x y z = refl
then-joined ignored kind w x y z = refl
then-joined node kind w x y z = refl

pub shown_of-append : (text : List ℕ) (xs ys : List Plain) → shown_of text (xs ++ ys) ≡ joined (shown_of text xs) (shown_of text ys)
shown_of-append text [] ys = refl
shown_of-append text (x ∷ xs) ys =
    let w = word_of (slice_range text x.start x.end) in
    ap (λ z. row_then (part_of x.kind) x.kind w (shown text x.children) z) (shown_of-append text xs ys)
    ∙ then-joined (part_of x.kind) x.kind w (shown text x.children) (shown_of text xs) (shown_of text ys)

then-node : (p : Part) (kind : SyntaxKind) (w : Word) (x y : Row) → is_node p ≡ true → row_then p kind w x y ≡ row.node kind x y
then-node node kind w x y h = refl
then-node word kind w x y h = cc
then-node ignored kind w x y h = cc

pub shown_of-node : (text : List ℕ) (kind : SyntaxKind) (trees : List Plain) → is_node (part_of kind) ≡ true → shown_of text (node_of kind trees ∷ []) ≡ row.node kind (shown_of text trees) row.nothing
shown_of-node text kind trees h = then-node (part_of kind) kind _ (shown_of text trees) row.nothing h
