-- A row shows as many words as its tokens are, or fewer: those below a token it does not show.
use Rattle.std.proofs.Common.{◌≡◌, ℕ, ◌+◌, ◌≤◌, List, [], ◌∷◌, ◌++◌, length, refl, ◌∙◌, sym, ap, append_assoc, arith, length-append}
use Rattle.std.specs.Prelude.{slice_range}
use Rattle.gql_cst.specs.Words.{word_of}
use Rattle.gql_grammar.specs.declared.word.Word.{Word}
use Rattle.gql_grammar.specs.declared.syntax_kind.SyntaxKind.{SyntaxKind}
use Rattle.gql_grammar.specs.Row as row
use Rattle.gql_grammar.specs.Row.{Row}
use Rattle.gql_cst.specs.Forest.{Forest, nothing, tree_then}
use Rattle.gql_cst.specs.Leaves.{Part, word, ignored, node, part_of, Leaf, own_leaf, leaves}
use Rattle.gql_cst.specs.Sentences.{own_word, words, row_then, shown}
use Rattle.gql_cst.specs.Bare.{own_spoken, spoken, Ends, TokensEnd}

pub spoken-append : (xs ys : List Leaf) → spoken (xs ++ ys) ≡ spoken xs ++ spoken ys
spoken-append [] ys = refl
spoken-append (x ∷ xs) ys =
    ap (λ behind. own_spoken x.part x ++ behind) (spoken-append xs ys) ∙ sym (append_assoc (own_spoken x.part x) (spoken xs) (spoken ys))

-- the words below a tree and behind it, the own one aside
pub spoken-tree : (own below behind : List Leaf) → spoken (own ++ below ++ behind) ≡ spoken own ++ spoken below ++ spoken behind
spoken-tree own below behind =
    spoken-append (own ++ below) behind ∙ ap (λ front. front ++ spoken behind) (spoken-append own below)

-- how many words there are, and how many the row shows
unfoldable pub count : Forest → ℕ
count f = length (spoken (leaves f))

unfoldable pub seen : List ℕ → Forest → ℕ
seen text f = length (row.leaves (shown text f))

-- ---- how many words a token list has

own_words : (part : Part) (w : Word) (leaf : Leaf) → length (own_word part w) ≡ length (own_spoken part leaf)
own_words word w leaf = refl
own_words ignored w leaf = refl
own_words node w leaf = refl

pub words-length : (text : List ℕ) (ls : List Leaf) → length (words text ls) ≡ length (spoken ls)
words-length text [] = refl
words-length text (leaf ∷ ls) =
    let w = word_of (slice_range text leaf.start leaf.end) in
    omega (arith, length-append (own_word leaf.part w) (words text ls), length-append (own_spoken leaf.part leaf) (spoken ls), own_words leaf.part w leaf, words-length text ls)

-- ---- what a tree adds

own_size : Part → ℕ
own_size word = 1
own_size ignored = 0
own_size node = 0

own-size : (part : Part) (start end : ℕ) → length (spoken (own_leaf part start end)) ≡ own_size part
unfolding own_size
own-size word start end = refl
own-size ignored start end = refl
own-size node start end = refl

count-tree : (part : Part) (start end : ℕ) (below behind : List Leaf) → length (spoken (own_leaf part start end ++ below ++ behind)) ≡ own_size part + (length (spoken below) + length (spoken behind))
count-tree part start end below behind =
    let own = own_leaf part start end in
    omega (arith, ap length (spoken-tree own below behind), length-append (spoken own ++ spoken below) (spoken behind), length-append (spoken own) (spoken below), own-size part start end)

shown_size : Part → ℕ → ℕ → ℕ
shown_size word below behind = 1 + behind
shown_size ignored below behind = behind
shown_size node below behind = below + behind

seen-tree : (part : Part) (kind : SyntaxKind) (w : Word) (below behind : Row) → length (row.leaves (row_then part kind w below behind)) ≡ shown_size part (length (row.leaves below)) (length (row.leaves behind))
unfolding shown_size
seen-tree word kind w below behind = omega arith
seen-tree ignored kind w below behind = refl
seen-tree node kind w below behind = length-append (row.leaves below) (row.leaves behind)

-- ---- no more are shown than there are

fewer : (part : Part) (x y below behind : ℕ) → x ≤ below → y ≤ behind → shown_size part x y ≤ own_size part + (below + behind)
unfolding shown_size own_size
fewer word x y below behind h g = omega arith
fewer ignored x y below behind h g = omega arith
fewer node x y below behind h g = omega arith

pub seen-le : (text : List ℕ) (f : Forest) → seen text f ≤ count f
unfolding seen count
seen-le text nothing = omega arith
seen-le text (tree_then k start end children behind) =
    omega (
      arith,
      seen-tree (part_of k) k (word_of (slice_range text start end)) (shown text children) (shown text behind),
      count-tree (part_of k) start end (leaves children) (leaves behind),
      fewer (part_of k) _ _ _ _ (seen-le text children) (seen-le text behind),
    )

-- ---- where all are shown, none stands below a token

none_left : (ls : List Leaf) → length ls ≡ 0 → ls ≡ []
none_left [] h = refl
none_left (l ∷ ls) h = absurd (omega (arith, h))

all_shown : (part : Part) (children : Forest) {A : Type 0} (x y behind : ℕ) → x ≤ count children → y ≤ behind
    → shown_size part x y ≡ own_size part + (count children + behind) → (x ≡ count children → A) → Ends part children A × (y ≡ behind)
unfolding shown_size own_size count
all_shown word children x y behind h g e inner = (none_left (spoken (leaves children)) (omega arith), omega arith)
all_shown ignored children x y behind h g e inner = (none_left (spoken (leaves children)) (omega arith), omega arith)
all_shown node children x y behind h g e inner = (inner (omega arith), omega arith)

pub ends : (text : List ℕ) (f : Forest) → seen text f ≡ count f → TokensEnd f
unfolding seen count
ends text nothing h = tt
ends text (tree_then k start end children behind) h =
    let e : shown_size (part_of k) (seen text children) (seen text behind) ≡ own_size (part_of k) + (count children + count behind) =
    sym (seen-tree (part_of k) k (word_of (slice_range text start end)) (shown text children) (shown text behind))
    ∙ h ∙ count-tree (part_of k) start end (leaves children) (leaves behind) in
    let p = all_shown (part_of k) children (seen text children) (seen text behind) (count behind) (seen-le text children) (seen-le text behind) e (ends text children) in
    (p.0, ends text behind p.1)

-- ---- where none stands below a token, all are shown

shown_all : (part : Part) (children : Forest) {A : Type 0} (x y behind : ℕ) → Ends part children A → (A → x ≡ count children) → y ≡ behind
    → shown_size part x y ≡ own_size part + (count children + behind)
unfolding shown_size own_size count
shown_all word children x y behind h inner e = omega (arith, ap length h, e)
shown_all ignored children x y behind h inner e = omega (arith, ap length h, e)
shown_all node children x y behind h inner e = omega (arith, inner h, e)

pub seen-count : (text : List ℕ) (f : Forest) → TokensEnd f → seen text f ≡ count f
unfolding seen count
seen-count text nothing h = refl
seen-count text (tree_then k start end children behind) h =
    seen-tree (part_of k) k (word_of (slice_range text start end)) (shown text children) (shown text behind)
    ∙ shown_all (part_of k) children (seen text children) (seen text behind) (count behind) h.0 (seen-count text children) (seen-count text behind h.1)
    ∙ sym (count-tree (part_of k) start end (leaves children) (leaves behind))
