-- What the row of a sentence tells of the trees of a text.
use Rattle.std.proofs.Common.{◌≡◌, ℕ, zero, suc, ◌+◌, ◌<◌, ◌≤◌, Bool, true, false, if◌then◌else◌, List, [], ◌∷◌, ◌++◌, length, is_some, option_to_list, Option, Some, None, refl, sym, ap, ◌∙◌, subst, arith}
use Rattle.std.specs.Prelude.{map, slice_get, slice_range}
use Rattle.gql_source.specs.declared.file_id.FileId.{FileId}
use Rattle.gql_grammar.specs.declared.word.Word.{Word}
use Rattle.gql_grammar.specs.declared.syntax_kind.SyntaxKind.{SyntaxKind}
use Rattle.gql_grammar.specs.declared.syntax_kind.SyntaxKind.TheVariants.{Token}
use Rattle.gql_grammar.specs.Word.{is_name as names}
use Rattle.gql_grammar.specs.Nodes.{IsAllowed, AllAllowed}
use Rattle.gql_grammar.specs.Row as row
use Rattle.gql_grammar.specs.Row.{Row}
use Rattle.gql_cst.specs.Forest.{Forest, Plain, nothing, tree_then}
use Rattle.gql_cst.specs.Leaves.{Part, word, ignored, node, part_of, Leaf, own_leaf, leaves, Tiles}
use Rattle.gql_cst.specs.Sentences.{row_then, shown}
use Rattle.gql_cst.specs.Words.{word_of}
use Rattle.gql_ast_base.specs.Kinds.{is_kind}
use Rattle.gql_ast_base.specs.Parts.{Text, gather, child, children_of, inside, word as name_text, name_of, nth_name}
use Rattle.gql_ast_laws.proofs.TokenKinds.{is_word_part, token_kind, word_is_token, same_kind, kind_is}
use Rattle.gql_ast_laws.proofs.Blind.{tree}
use Rattle.gql_ast_laws.proofs.Inner.{both_ways, here, later}
use Rattle.gql_ast_laws.proofs.Named.{no_text, nth_name-is}
use Rattle.gql_ast_laws.proofs.Spelled.{word-is}
use Rattle.gql_ast_laws.proofs.Tops.{tops, HasNode, at, after_leaf, after_node}

module _ (text : Text) where
  -- the token, if it is no ignored one, is as a name what its word says
  abbrev pub IsSpelled : Leaf → Type 0
  IsSpelled leaf = leaf.part ≡ word → (children : Forest) → name_text text (tree Token leaf.start leaf.end children)
      ≡ (if names (word_of (slice_range text leaf.start leaf.end)) then Some (slice_range text leaf.start leaf.end) else None)

  abbrev pub AreSpelled : List Leaf → Type 0
  AreSpelled [] = Unit {0}
  AreSpelled (leaf ∷ ls) = IsSpelled leaf × AreSpelled ls

  pub tiled-spelled : (from : ℕ) (ls : List Leaf) (to : ℕ) → Tiles text from ls to → AreSpelled ls
  tiled-spelled from [] to h = tt
  tiled-spelled from (leaf ∷ ls) to h = ((λ p children. word-is text from leaf children p h.0), tiled-spelled leaf.end ls to h.1)

  front : (xs ys : List Leaf) → AreSpelled (xs ++ ys) → AreSpelled xs
  front [] ys h = tt
  front (x ∷ xs) ys h = (h.0, front xs ys h.1)

  back : (xs ys : List Leaf) → AreSpelled (xs ++ ys) → AreSpelled ys
  back [] ys h = h
  back (x ∷ xs) ys h = back xs ys h.1

  own-of : (kind : SyntaxKind) (start end : ℕ) (children rest : Forest) → AreSpelled (leaves (tree_then kind start end children rest)) → AreSpelled (own_leaf (part_of kind) start end)
  own-of kind start end children rest h = front (own_leaf (part_of kind) start end) (leaves children) (front (own_leaf (part_of kind) start end ++ leaves children) (leaves rest) h)

  pub below-of : (kind : SyntaxKind) (start end : ℕ) (children rest : Forest) → AreSpelled (leaves (tree_then kind start end children rest)) → AreSpelled (leaves children)
  below-of kind start end children rest h = back (own_leaf (part_of kind) start end) (leaves children) (front (own_leaf (part_of kind) start end ++ leaves children) (leaves rest) h)

  pub rest-of : (kind : SyntaxKind) (start end : ℕ) (children rest : Forest) → AreSpelled (leaves (tree_then kind start end children rest)) → AreSpelled (leaves rest)
  rest-of kind start end children rest h = back (own_leaf (part_of kind) start end ++ leaves children) (leaves rest) h

  -- ---- names

  -- the names at the top of a row of trees
  abbrev pub texts : Forest → List Text
  texts f = gather (name_text text) f

  picked : (b : Bool) (found : Text) (behind : List Text) (x : Row) → names (word_of found) ≡ b → map word_of behind ≡ tops x
      → map word_of (option_to_list (if b then Some found else None) ++ behind) ≡ tops (row.leaf (word_of found) x)
  picked true found behind x e h = rw e (ap (λ l. word_of found ∷ l) h)
  picked false found behind x e h = rw e h

  tops-then : (part : Part) (kind : SyntaxKind) (start end : ℕ) (children : Forest) (behind : List Text) (inner x : Row)
      → part_of kind ≡ part → AreSpelled (own_leaf part start end) → map word_of behind ≡ tops x
      → map word_of (option_to_list (name_text text (tree kind start end children)) ++ behind) ≡ tops (row_then part kind (word_of (slice_range text start end)) inner x)
  tops-then word kind start end children behind inner x e own h =
      let token : Token ≡ kind = word_is_token kind e in
      let found = slice_range text start end in
      ap (λ k. map word_of (option_to_list (name_text text (tree k start end children)) ++ behind)) (sym token)
      ∙ ap (λ o. map word_of (option_to_list o ++ behind)) (own.0 refl children)
      ∙ picked (names (word_of found)) found behind x refl h
  tops-then ignored kind start end children behind inner x e own h =
      ap (λ o. map word_of (option_to_list o ++ behind)) (no_text text kind start end children (token_kind kind ∙ ap is_word_part e)) ∙ h
  tops-then node kind start end children behind inner x e own h =
      ap (λ o. map word_of (option_to_list o ++ behind)) (no_text text kind start end children (token_kind kind ∙ ap is_word_part e)) ∙ h

  pub tops-shown : (f : Forest) → AreSpelled (leaves f) → map word_of (texts f) ≡ tops (shown text f)
  tops-shown nothing h = refl
  tops-shown (tree_then kind start end children rest) h =
      tops-then (part_of kind) kind start end children (texts rest) (shown text children) (shown text rest) refl
      (own-of kind start end children rest h) (tops-shown rest (rest-of kind start end children rest h))

  length-map : (xs : List Text) → length (map word_of xs) ≡ length xs
  length-map [] = refl
  length-map (x ∷ xs) = ap suc (length-map xs)

  pub texts-enough : (n : ℕ) (f : Forest) → AreSpelled (leaves f) → n ≤ length (tops (shown text f)) → n ≤ length (texts f)
  texts-enough n f h le = subst (λ k. n ≤ k) (sym (ap length (tops-shown f h)) ∙ length-map (texts f)) le

  some-at : {T : Type 0} (xs : List T) (n : ℕ) → n < length xs → is_some (slice_get xs n) ≡ true
  some-at [] n h = absurd (omega arith)
  some-at (x ∷ xs) zero h = refl
  some-at (x ∷ xs) (suc n) h = some-at xs n (omega arith)

  named-step : (file : FileId) (t : Plain) (o : Option Text) → name_text text t ≡ o → (rest : Forest) → length (gather (name_of text file) rest) ≡ length (texts rest)
      → length (option_to_list (name_of text file t) ++ gather (name_of text file) rest) ≡ length (option_to_list (name_text text t) ++ texts rest)
  unfolding name_of
  named-step file t None e rest h = rw e h
  named-step file t (Some x) e rest h = rw e (ap suc h)

  named-length : (file : FileId) (f : Forest) → length (gather (name_of text file) f) ≡ length (texts f)
  named-length file nothing = refl
  named-length file (tree_then kind start end children rest) =
      named-step file (tree kind start end children) (name_text text (tree kind start end children)) refl rest (named-length file rest)

  -- a row that has more than n names has an nth one
  pub name-at : (file : FileId) (n : ℕ) (f : Forest) → AreSpelled (leaves f) → n + 1 ≤ length (tops (shown text f)) → is_some (nth_name text file n f) ≡ true
  name-at file n f h le =
      let enough : n + 1 ≤ length (texts f) = texts-enough (n + 1) f h le in
      let more : n < length (gather (name_of text file) f) = subst (λ k. n < k) (sym (named-length file f)) (omega arith) in
      rw (nth_name-is text file n f) (some-at (gather (name_of text file) f) n more)

  -- ---- nodes

  -- the first tree of a kind, which a rule allows
  pub record Child (k : SyntaxKind) (f : Forest) : Type 0 where
    pub found : Plain
    pub kind : found.kind ≡ k
    pub is : child k f ≡ Some found
    pub allowed : IsAllowed k (shown text found.children)
    pub below : AllAllowed (shown text found.children)
    pub spelled : AreSpelled (leaves found.children)

  pub node-row : (k kind : SyntaxKind) (part : Part) (w : Word) (inner x : Row) → part ≡ node → k ≡ kind → AllAllowed (row_then part kind w inner x) → IsAllowed k inner × AllAllowed inner
  node-row k kind node w inner x p e h = (subst (λ j. IsAllowed j inner) (sym e) h.0, h.1.0)
  node-row k kind word w inner x p e h = absurd (cc)
  node-row k kind ignored w inner x p e h = absurd (cc)

  pub rest-row : (part : Part) (kind : SyntaxKind) (w : Word) (inner x : Row) → AllAllowed (row_then part kind w inner x) → AllAllowed x
  rest-row word kind w inner x h = h
  rest-row ignored kind w inner x h = h
  rest-row node kind w inner x h = h.1.1

  node-later : (k kind : SyntaxKind) (inner x : Row) → is_kind kind k ≡ false → HasNode k (row.node kind inner x) → HasNode k x
  node-later k kind inner x e at = absurd (let c : true ≡ false = sym (same_kind k) ∙ e in cc)
  node-later k kind inner x e (after_node h) = h

  leaf-later : (k : SyntaxKind) (w : Word) (x : Row) → HasNode k (row.leaf w x) → HasNode k x
  leaf-later k w x (after_leaf h) = h

  pub has-later : (part : Part) (k kind : SyntaxKind) (w : Word) (inner x : Row) → is_kind kind k ≡ false → HasNode k (row_then part kind w inner x) → HasNode k x
  has-later word k kind w inner x e h = leaf-later k w x h
  has-later ignored k kind w inner x e h = h
  has-later node k kind w inner x e h = node-later k kind inner x e h

  pub none-here : {A : Type 0} (k : SyntaxKind) → HasNode k row.nothing → A
  none-here k h = elim h [ ]

  pub child-of : (k : SyntaxKind) → part_of k ≡ node → (f : Forest) → AllAllowed (shown text f) → AreSpelled (leaves f) → HasNode k (shown text f) → Child k f
  child-of k n nothing a h has = none-here k has
  child-of k n (tree_then kind start end children rest) a h has =
      let w = word_of (slice_range text start end) in
      both_ways (is_kind kind k)
      (λ e.
      let same : kind ≡ k = kind_is kind k e in
      let both = node-row k kind (part_of kind) w (shown text children) (shown text rest) (ap part_of same ∙ n) (sym same) a in
      record {
        found = tree kind start end children;
        kind = same;
        is = here k kind start end children rest e;
        allowed = both.0;
        below = both.1;
        spelled = below-of kind start end children rest h;
      })
      (λ e.
      let next = child-of k n rest (rest-row (part_of kind) kind w (shown text children) (shown text rest) a) (rest-of kind start end children rest h)
      (has-later (part_of kind) k kind w (shown text children) (shown text rest) e has) in
      record { found = next.found; kind = next.kind; is = later k kind start end children rest e ∙ next.is; allowed = next.allowed; below = next.below; spelled = next.spelled })

  pub inside-is : (k : SyntaxKind) (f : Forest) (c : Child k f) → inside k f ≡ c.found.children
  inside-is k f c = ap children_of c.is
