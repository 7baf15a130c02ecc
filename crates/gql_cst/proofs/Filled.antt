-- The row and the words of trees say all that is left of the trees without ignored tokens.
use Rattle.std.proofs.Common.{◌≡◌, ℕ, List, [], ◌∷◌, ◌++◌, length, drop, refl, ◌∙◌, sym, ap, subst, append_assoc}
use Rattle.std.proofs.Math.Seq.{drop-append_seam}
use Rattle.std.specs.Prelude.{slice_range}
use Rattle.gql_grammar.specs.declared.word.Word.{Word}
use Rattle.gql_grammar.specs.declared.rule.Rule.{Rule}
use Rattle.gql_grammar.specs.declared.syntax_kind.SyntaxKind.{SyntaxKind}
use Rattle.gql_grammar.specs.declared.syntax_kind.SyntaxKind.TheVariants.{Token}
use Rattle.gql_grammar.specs.Reads.{Sentence}
use Rattle.gql_grammar.specs.Row as row
use Rattle.gql_grammar.specs.Row.{Row}
use Rattle.gql_cst.specs.Forest.{Forest, nothing, tree_then}
use Rattle.gql_cst.specs.Leaves.{Part, word, ignored, node, part_of, Leaf, own_leaf, leaves, Tiles}
use Rattle.gql_cst.specs.Sentences.{root_kind, words, row_then, shown}
use Rattle.gql_cst.specs.Words.{word_of}
use Rattle.gql_cst.specs.Bare.{bare_then, bare, spoken, Ends, TokensEnd}
use Rattle.gql_cst.specs.TreeOf.{IsTreeOf}
use Rattle.gql_cst.proofs.Counts.{spoken-tree, count, seen, words-length, ends, seen-count}

-- trees of a row, whose tokens are at the front of the list
fill : Row → List Leaf → Forest
fill row.nothing ls = nothing
fill (row.leaf w behind) [] = nothing
fill (row.leaf w behind) (l ∷ ls) = tree_then Token l.start l.end nothing (fill behind ls)
fill (row.node kind inner behind) ls = tree_then kind 0 0 (fill inner ls) (fill behind (drop (length (row.leaves inner)) ls))

word_is_token : (kind : SyntaxKind) → part_of kind ≡ word → Token ≡ kind
word_is_token Token h = refl
word_is_token _ h = cc

filled_then : (part : Part) (kind : SyntaxKind) (start end : ℕ) (w : Word) (below behind : Row) (children rest : Forest) (under after more : List Leaf)
    → (part ≡ word → Token ≡ kind) → (Ends part children (TokensEnd children) → part ≡ node → (ls : List Leaf) → fill below (under ++ ls) ≡ bare children)
    → fill behind (after ++ more) ≡ bare rest → under ≡ spoken (leaves children) → Ends part children (TokensEnd children) → (part ≡ node → length (row.leaves below) ≡ length under)
    → fill (row_then part kind w below behind) ((spoken (own_leaf part start end) ++ under ++ after) ++ more) ≡ bare_then part kind start end (bare children) (bare rest)
unfolding fill
filled_then word kind start end w below behind children rest under after more token inner outer u h n =
    let none : under ≡ [] = u ∙ h in
    ap (λ ls. tree_then Token start end nothing (fill behind ((ls ++ after) ++ more))) none
    ∙ ap (λ f. tree_then Token start end nothing f) outer
    ∙ ap (λ k. tree_then k start end nothing (bare rest)) (token refl)
filled_then ignored kind start end w below behind children rest under after more token inner outer u h n =
    let none : under ≡ [] = u ∙ h in
    ap (λ ls. fill behind ((ls ++ after) ++ more)) none ∙ outer
filled_then node kind start end w below behind children rest under after more token inner outer u h n =
    let split : (under ++ after) ++ more ≡ under ++ (after ++ more) = append_assoc under after more in
    let seam : drop (length (row.leaves below)) (under ++ (after ++ more)) ≡ after ++ more =
    ap (λ k. drop k (under ++ (after ++ more))) (n refl) ∙ drop-append_seam under (after ++ more) in
    ap (λ ls. tree_then kind 0 0 (fill below ls) (fill behind (drop (length (row.leaves below)) ls))) split
    ∙ ap (λ f. tree_then kind 0 0 f (fill behind (drop (length (row.leaves below)) (under ++ (after ++ more))))) (inner h refl (after ++ more))
    ∙ ap (λ ls. tree_then kind 0 0 (bare children) (fill behind ls)) seam
    ∙ ap (λ f. tree_then kind 0 0 (bare children) f) outer

of_node : (part : Part) (children : Forest) {A B : Type 0} → Ends part children A → part ≡ node → (A → B) → B
of_node node children h e f = f h
of_node word children h e f = absurd (cc)
of_node ignored children h e f = absurd (cc)

filled : (text : List ℕ) (f : Forest) (more : List Leaf) → TokensEnd f → fill (shown text f) (spoken (leaves f) ++ more) ≡ bare f
unfolding fill seen count
filled text nothing more h = refl
filled text (tree_then kind start end children rest) more h =
    let w = word_of (slice_range text start end) in
    ap (λ ls. fill (row_then (part_of kind) kind w (shown text children) (shown text rest)) (ls ++ more)) (spoken-tree (own_leaf (part_of kind) start end) (leaves children) (leaves rest))
    ∙ filled_then (part_of kind) kind start end w (shown text children) (shown text rest) children rest (spoken (leaves children)) (spoken (leaves rest)) more
    (word_is_token kind) (λ g e ls. of_node (part_of kind) children g e (filled text children ls)) (filled text rest more h.1) refl h.0
    (λ e. of_node (part_of kind) children h.0 e (seen-count text children))

nil : {A : Type 0} (xs : List A) → xs ++ [] ≡ xs
nil [] = refl
nil (x ∷ xs) = ap (λ ys. x ∷ ys) (nil xs)

-- trees with one row and one list of tokens are equal without ignored tokens
bare_same : (text : List ℕ) (f g : Forest) → TokensEnd f → TokensEnd g → leaves f ≡ leaves g → shown text f ≡ shown text g → bare f ≡ bare g
bare_same text f g h k same_leaves same_row =
    sym (filled text f [] h)
    ∙ ap (λ ls. fill (shown text f) (spoken ls ++ [])) same_leaves
    ∙ ap (λ r. fill r (spoken (leaves g) ++ [])) same_row
    ∙ filled text g [] k

inside : Row → Row
inside row.nothing = row.nothing
inside (row.leaf w behind) = row.nothing
inside (row.node kind inner behind) = inner

-- the words of a sentence are those that its tree shows
pub tree_ends : ((start : Rule) (ws : List Word) (f : Row) → Sentence start ws f → row.leaves f ≡ ws)
    → (start : Rule) (text : List ℕ) (f : Forest) → IsTreeOf start text f → TokensEnd f
unfolding seen count
tree_ends spelt start text f h =
    ends text f (sym (ap length (nil (row.leaves (shown text f))))
    ∙ ap length (spelt start (words text (leaves f)) _ h.sentence) ∙ words-length text (leaves f))

pub tree_same : ((text : List ℕ) (from to : ℕ) (one other : List Leaf) → Tiles text from one to → Tiles text from other to → one ≡ other)
    → ((start : Rule) (ws : List Word) (f g : Row) → Sentence start ws f → Sentence start ws g → f ≡ g)
    → ((start : Rule) (ws : List Word) (f : Row) → Sentence start ws f → row.leaves f ≡ ws)
    → (start : Rule) (text : List ℕ) (f g : Forest) → IsTreeOf start text f → IsTreeOf start text g → bare f ≡ bare g
unfolding inside
tree_same one_list one_tree spelt start text f g h k =
    let same_leaves : leaves f ≡ leaves g = one_list text 0 _ (leaves f) (leaves g) h.tiles k.tiles in
    let other = subst (λ (ls : List Leaf). Sentence start (words text ls) (row.node (root_kind start) (shown text g) row.nothing)) (sym same_leaves) k.sentence in
    let same_row : shown text f ≡ shown text g = ap inside (one_tree start (words text (leaves f)) _ _ h.sentence other) in
    bare_same text f g (tree_ends spelt start text f h) (tree_ends spelt start text g k) same_leaves same_row
