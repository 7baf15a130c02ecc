-- What is said, where it stands in a text: its tokens lie one behind the other, and its row and its words are those that were said.
use Rattle.std.proofs.Common.{◌≡◌, ℕ, ◌+◌, ◌-◌, ◌<◌, List, [], ◌∷◌, ◌++◌, length, drop, refl, sym, ap, ◌∙◌, subst, arith, append_assoc, length-append}
use Rattle.std.specs.Prelude.{slice_range}
use Rattle.gql_lexer.specs.Lexical.{IsToken}
use Rattle.gql_grammar.specs.declared.syntax_kind.SyntaxKind.{SyntaxKind}
use Rattle.gql_grammar.specs.Row as row
use Rattle.gql_grammar.specs.Row.{Row}
use Rattle.gql_cst.specs.Forest.{Forest, tree_then}
use Rattle.gql_cst.specs.Leaves.{Part, word, ignored, node, part_of, Leaf, IsLeaf, Tiles, leaves}
use Rattle.gql_cst.specs.Sentences.{own_word, words, shown}
use Rattle.gql_cst.specs.Words.{word_of}
use Rattle.gql_print_laws.specs.bridge.Said.{Text, Said, over, token, space, under, text_of, forest_at, row_of, words_of, IsPiece, Lexes}
use Rattle.gql_print_laws.proofs.Rest.{Rest, after, cut, char_boundary}

pub piece_leaf : (part : Part) (text : Text) (n : ℕ) (t rest : Text) → Rest text n (t ++ rest) → IsPiece part t rest → IsLeaf text n (record { part = part; start = n; end = n + length t })
piece_leaf part text n t rest r p =
    let some : 0 < length t = p.some in
    let long : (n + length t) - n ≡ length t = omega arith in
    record {
      starts = refl;
      further = omega arith;
      kind = p.kind;
      part = p.is;
      token = subst (λ k. IsToken p.kind (drop n text) k) (sym long) (subst (λ l. IsToken p.kind l (length t)) (sym r.is) p.token);
      starts_character = char_boundary text n (t ++ rest) r p.low;
      ends_character = char_boundary text (n + length t) rest (after text n t rest r) p.next;
    }

pub tiles_append : (text : Text) (xs ys : List Leaf) (from mid to : ℕ) → Tiles text from xs mid → Tiles text mid ys to → Tiles text from (xs ++ ys) to
tiles_append text [] ys from mid to h k = subst (λ m. Tiles text m ys to) (sym h) k
tiles_append text (x ∷ xs) ys from mid to h k = (h.0, tiles_append text xs ys x.end mid to h.1 k)

pub words_append : (text : Text) (xs ys : List Leaf) → words text (xs ++ ys) ≡ words text xs ++ words text ys
words_append text [] ys = refl
words_append text (x ∷ xs) ys =
    let own = own_word x.part (word_of (slice_range text x.start x.end)) in
    ap (λ l. own ++ l) (words_append text xs ys) ∙ sym (append_assoc own (words text xs) (words text ys))

-- a piece behind which there is more
pub first_part : (text : Text) (n : ℕ) (a b rest : Text) → Rest text n ((a ++ b) ++ rest) → Rest text n (a ++ (b ++ rest))
first_part text n a b rest r = subst (λ l. Rest text n l) (append_assoc a b rest) r

pub second_part : (text : Text) (n : ℕ) (a b rest : Text) → Rest text n ((a ++ b) ++ rest) → Rest text (n + length a) (b ++ rest)
second_part text n a b rest r = after text n a (b ++ rest) (first_part text n a b rest r)

leaves_under : (k : SyntaxKind) (inner behind : Forest) → part_of k ≡ node → leaves (tree_then k 0 0 inner behind) ≡ leaves inner ++ leaves behind
leaves_under k inner behind e = rw e refl

shown_under : (text : Text) (k : SyntaxKind) (inner behind : Forest) → part_of k ≡ node → shown text (tree_then k 0 0 inner behind) ≡ row.node k (shown text inner) (shown text behind)
shown_under text k inner behind e = rw e refl

module _ (text : Text) where
  ends : (n : ℕ) (a b : Text) → n + length a + length b ≡ n + length (a ++ b)
  ends n a b = let e = length-append a b in omega (arith, e)

  pub laid : (s : Said) (n : ℕ) (rest : Text) → Rest text n (text_of s ++ rest) → Lexes s rest → Tiles text n (leaves (forest_at n s)) (n + length (text_of s))
  laid over n rest r h = omega arith
  laid (token t s) n rest r h =
      subst (λ k. Tiles text n (leaves (forest_at n (token t s))) k) (ends n t (text_of s))
      (piece_leaf word text n t (text_of s ++ rest) (first_part text n t (text_of s) rest r) h.0, laid s (n + length t) rest (second_part text n t (text_of s) rest r) h.1)
  laid (space t s) n rest r h =
      subst (λ k. Tiles text n (leaves (forest_at n (space t s))) k) (ends n t (text_of s))
      (piece_leaf ignored text n t (text_of s ++ rest) (first_part text n t (text_of s) rest r) h.0, laid s (n + length t) rest (second_part text n t (text_of s) rest r) h.1)
  laid (under k i s) n rest r h =
      let inner = forest_at n i in
      let behind = forest_at (n + length (text_of i)) s in
      subst (λ m. Tiles text n (leaves (forest_at n (under k i s))) m) (ends n (text_of i) (text_of s))
      (subst (λ ls. Tiles text n ls (n + length (text_of i) + length (text_of s))) (sym (leaves_under k inner behind h.0))
      (tiles_append text (leaves inner) (leaves behind) n (n + length (text_of i)) (n + length (text_of i) + length (text_of s))
      (laid i n (text_of s ++ rest) (first_part text n (text_of i) (text_of s) rest r) h.1.0)
      (laid s (n + length (text_of i)) rest (second_part text n (text_of i) (text_of s) rest r) h.1.1)))

  pub word_at : (n : ℕ) (t rest : Text) → Rest text n (t ++ rest) → word_of (slice_range text n (n + length t)) ≡ word_of t
  word_at n t rest r = ap word_of (cut text n t rest r)

  pub shown_is : (s : Said) (n : ℕ) (rest : Text) → Rest text n (text_of s ++ rest) → Lexes s rest → shown text (forest_at n s) ≡ row_of s
  shown_is over n rest r h = refl
  shown_is (token t s) n rest r h =
      ap (λ x. row.leaf (word_of (slice_range text n (n + length t))) x) (shown_is s (n + length t) rest (second_part text n t (text_of s) rest r) h.1)
      ∙ ap (λ x. row.leaf x (row_of s)) (word_at n t (text_of s ++ rest) (first_part text n t (text_of s) rest r))
  shown_is (space t s) n rest r h = shown_is s (n + length t) rest (second_part text n t (text_of s) rest r) h.1
  shown_is (under k i s) n rest r h =
      shown_under text k (forest_at n i) (forest_at (n + length (text_of i)) s) h.0
      ∙ ap (λ x. row.node k x (shown text (forest_at (n + length (text_of i)) s))) (shown_is i n (text_of s ++ rest) (first_part text n (text_of i) (text_of s) rest r) h.1.0)
      ∙ ap (λ x. row.node k (row_of i) x) (shown_is s (n + length (text_of i)) rest (second_part text n (text_of i) (text_of s) rest r) h.1.1)

  pub words_are : (s : Said) (n : ℕ) (rest : Text) → Rest text n (text_of s ++ rest) → Lexes s rest → words text (leaves (forest_at n s)) ≡ words_of s
  words_are over n rest r h = refl
  words_are (token t s) n rest r h =
      ap (λ x. word_of (slice_range text n (n + length t)) ∷ x) (words_are s (n + length t) rest (second_part text n t (text_of s) rest r) h.1)
      ∙ ap (λ x. x ∷ words_of s) (word_at n t (text_of s ++ rest) (first_part text n t (text_of s) rest r))
  words_are (space t s) n rest r h = words_are s (n + length t) rest (second_part text n t (text_of s) rest r) h.1
  words_are (under k i s) n rest r h =
      let inner = forest_at n i in
      let behind = forest_at (n + length (text_of i)) s in
      ap (λ ls. words text ls) (leaves_under k inner behind h.0)
      ∙ words_append text (leaves inner) (leaves behind)
      ∙ ap (λ x. x ++ words text (leaves behind)) (words_are i n (text_of s ++ rest) (first_part text n (text_of i) (text_of s) rest r) h.1.0)
      ∙ ap (λ x. words_of i ++ x) (words_are s (n + length (text_of i)) rest (second_part text n (text_of i) (text_of s) rest r) h.1.1)
