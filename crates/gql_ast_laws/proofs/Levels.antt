-- The trees of the texts of types, one level at a time.
use Rattle.std.proofs.Common.{◌≡◌, ℕ, ◌+◌, ◌≤◌, true, List, [], ◌∷◌, ◌++◌, length, Option, Some, refl, sym, ap, ◌∙◌, subst, arith, rules, append_assoc}
use Rattle.std.specs.Prelude.{nat_le, slice_range, slice_index}
use Rattle.gql_source.specs.Span.{Span}
use Rattle.gql_source.specs.declared.file_id.FileId.{FileId}
use Rattle.gql_lexer.specs.Class.{is_name_start}
use Rattle.gql_grammar.specs.declared.word.Word.{Word}
use Rattle.gql_grammar.specs.declared.word.Word.TheVariants.{Bang, BracketOpen, BracketClose}
use Rattle.gql_grammar.specs.declared.symbol.Symbol.{Symbol}
use Rattle.gql_grammar.specs.declared.symbol.Symbol.TheVariants.{Token, One}
use Rattle.gql_grammar.specs.declared.symbol.Terminal.TheVariants.{Exactly, AnyName}
use Rattle.gql_grammar.specs.declared.rule.Rule.TheVariants as rule
use Rattle.gql_grammar.specs.declared.syntax_kind.SyntaxKind.TheVariants as kind
use Rattle.gql_grammar.specs.Grammar.{declared}
use Rattle.gql_grammar.specs.Sentence.{Fits, done, token, tree, group, IsOneOf, here, there}
use Rattle.gql_grammar.specs.Row as row
use Rattle.gql_grammar.specs.Row.{Row}
use Rattle.gql_grammar.specs.Word.{is_name as names, is_same}
use Rattle.gql_cst.specs.Forest.{Forest, nothing, tree_then}
use Rattle.gql_cst.specs.Leaves.{Leaf, IsLeaf, Tiles, leaves}
use Rattle.gql_cst.specs.Sentences.{own_word, words, shown}
use Rattle.gql_cst.specs.Words.{word_of}
use Rattle.gql_ast_base.specs.Kinds.{is_kind}
use Rattle.gql_ast_base.specs.Names.{Named, is_name}
use Rattle.gql_ast_base.specs.Parts.{Text, head, piece, token_text, word as name_text, name_of, nth_name, location}
use Rattle.gql_ast_laws.proofs.Spelled.{word_of_name-names}
use Rattle.gql_ast_base.specs.declared.type_ref.TypeRef.{TypeRef, List as ListOf, NonNullList, the_lemmas}
use Rattle.gql_ast_base.specs.declared.type_ref.TypeRef.TheVariants.{Named as NamedType, NonNullNamed}
use Rattle.gql_ast_base.specs.Types.{non_null, form_step, type_step, forms}
use Rattle.gql_ast_laws.specs.Printed.{from_nowhere, unplaced}
use Rattle.gql_ast_laws.proofs.Rest.{Rest, Follows, cut, boundary, name_begins, name_leaf, word_at}

-- ---- levels of types

pub unplaced-Named : (name : Named) → unplaced (NamedType name) ≡ NamedType (from_nowhere name)
unplaced-Named name = search (rules, the_lemmas)

pub unplaced-NonNullNamed : (name : Named) → unplaced (NonNullNamed name) ≡ NonNullNamed (from_nowhere name)
unplaced-NonNullNamed name = search (rules, the_lemmas)

pub unplaced-List : (item : TypeRef) → unplaced (ListOf item) ≡ ListOf (unplaced item)
unplaced-List item = search (rules, the_lemmas)

pub unplaced-NonNullList : (item : TypeRef) → unplaced (NonNullList item) ≡ NonNullList (unplaced item)
unplaced-NonNullList item = search (rules, the_lemmas)

non_null-Named : (name : Named) → non_null (NamedType name) ≡ NonNullNamed name
non_null-Named name = search (rules, the_lemmas)

non_null-List : (item : TypeRef) → non_null (ListOf item) ≡ NonNullList item
non_null-List item = search (rules, the_lemmas)

-- ---- words of a name, and of one more token behind others

word_named : (name : Text) → is_name name ≡ true → is_name_start (slice_index name 0) ≡ true → names (word_of name) ≡ true
word_named name h s = rw s (word_of_name-names name)

start_of : (name : Text) → is_name name ≡ true → is_name_start (slice_index name 0) ≡ true
start_of [] h = absurd (cc)
start_of (x ∷ xs) h = name_begins (x ∷ xs) [] h

module _ (text : Text) where
  pub tiles_append : (xs ys : List Leaf) (from mid to : ℕ) → Tiles text from xs mid → Tiles text mid ys to → Tiles text from (xs ++ ys) to
  tiles_append [] ys from mid to h k = subst (λ m. Tiles text m ys to) (sym h) k
  tiles_append (x ∷ xs) ys from mid to h k = (h.0, tiles_append xs ys x.end mid to h.1 k)

  abbrev pub word_between : ℕ → ℕ → Word
  word_between start end = word_of (slice_range text start end)

  -- the words of a row in brackets
  words_then : (ls : List Leaf) (a b : ℕ) (vs : List Word) → words text ((ls ++ (word_at a b ∷ [])) ++ []) ++ vs ≡ words text ls ++ (word_between a b ∷ vs)
  words_then [] a b vs = refl
  words_then (l ∷ ls) a b vs =
      let own = own_word l.part (word_between l.start l.end) in
      append_assoc own (words text ((ls ++ (word_at a b ∷ [])) ++ [])) vs ∙ ap (λ m. own ++ m) (words_then ls a b vs) ∙ sym (append_assoc own (words text ls) (word_between a b ∷ vs))

  words_both : (ls : List Leaf) (a b c d : ℕ) (vs : List Word)
      → words text (((ls ++ (word_at a b ∷ [])) ++ (word_at c d ∷ [])) ++ []) ++ vs ≡ words text ls ++ (word_between a b ∷ word_between c d ∷ vs)
  words_both [] a b c d vs = refl
  words_both (l ∷ ls) a b c d vs =
      let own = own_word l.part (word_between l.start l.end) in
      append_assoc own (words text (((ls ++ (word_at a b ∷ [])) ++ (word_at c d ∷ [])) ++ [])) vs ∙ ap (λ m. own ++ m) (words_both ls a b c d vs)
      ∙ sym (append_assoc own (words text ls) (word_between a b ∷ word_between c d ∷ vs))

module _ (text : Text) (file : FileId) where
  -- the trees under a reference to a type between the two places, which refers to the type, the places of its names aside
  pub record Read (from to : ℕ) (ty : TypeRef) : Type 0 where
    pub children : Forest
    pub tiles : Tiles text from (leaves children) to
    pub way : List Symbol
    pub one : IsOneOf way (declared rule.TypeReference)
    pub fits : (vs : List Word) → Fits way (words text (leaves children) ++ vs) (shown text children) vs
    pub read : TypeRef
    pub means : head (forms text file children) ≡ Some read
    pub same : unplaced read ≡ unplaced ty

  -- the token of a name
  abbrev pub named_token : ℕ → ℕ → Forest
  named_token start end = tree_then kind.Token start end nothing nothing

  pub record NameAt (at : ℕ) (name : Text) : Type 0 where
    pub leaf : IsLeaf text at (word_at at (at + length name))
    pub takes : names (word_between text at (at + length name)) ≡ true
    pub place : Option Span
    pub is : nth_name text file 0 (named_token at (at + length name)) ≡ Some (record { text = name; location = place })

  text_at : (at end : ℕ) (name : Text) → at ≤ end → IsLeaf text at (word_at at end) → slice_range text at end ≡ name → is_name name ≡ true
      → name_text text (record { kind = kind.Token; start = at; end = end; children = nothing }) ≡ Some name
  unfolding name_text token_text piece is_kind
  text_at at end name le l e n =
      let order : nat_le at end ≡ true = grind (arith, le) in
      rw (order, boundary text at l.starts_character, boundary text end l.ends_character, e, n) refl

  nth_name_at : (at end : ℕ) (name : Text) → name_text text (record { kind = kind.Token; start = at; end = end; children = nothing }) ≡ Some name
      → nth_name text file 0 (named_token at end) ≡ Some (record { text = name; location = location file (record { kind = kind.Token; start = at; end = end; children = nothing }) })
  unfolding nth_name name_of
  nth_name_at at end name e = rw e (rw e refl)

  pub name_at : (at : ℕ) (name rest : Text) → Rest text at (name ++ rest) → is_name name ≡ true → Follows rest → NameAt at name
  name_at at name rest h n f =
      let leaf = name_leaf text at name rest h n f in
      let e = cut text at name rest h in
      let le : at ≤ at + length name = omega arith in
      record {
        leaf = leaf;
        takes = ap (λ l. names (word_of l)) e ∙ word_named name n (start_of name n);
        place = location file (record { kind = kind.Token; start = at; end = at + length name; children = nothing });
        is = nth_name_at at (at + length name) name (text_at at (at + length name) name le leaf e n);
      }

  pub record MarkAt (at : ℕ) (w : Word) : Type 0 where
    pub leaf : IsLeaf text at (word_at at (at + 1))
    pub is : is_same w (word_between text at (at + 1)) ≡ true

  -- ---- names

  abbrev named_tree : ℕ → ℕ → Forest → Forest
  named_tree start end rest = tree_then kind.NamedType 0 0 (named_token start end) rest

  named_means : (start end : ℕ) (name : Named) (rest : Forest) → nth_name text file 0 (named_token start end) ≡ Some name → head (forms text file (named_tree start end rest)) ≡ Some (NamedType name)
  unfolding form_step is_kind
  named_means start end name rest e = rw e refl

  pub named : (at : ℕ) (name : Named) → NameAt at name.text → Read at (at + length name.text) (NamedType name)
  named at name a = record {
    children = named_tree at (at + length name.text) nothing;
    tiles = (a.leaf, refl);
    way = One rule.NamedType ∷ [];
    one = here;
    fits = λ vs. tree rule.NamedType kind.NamedType (Token AnyName ∷ []) refl here (token AnyName _ a.takes done) done;
    read = NamedType (record { text = name.text; location = a.place });
    means = named_means at (at + length name.text) (record { text = name.text; location = a.place }) nothing a.is;
    same = unplaced-Named _ ∙ sym (unplaced-Named name);
  }

  abbrev bang_tree : Forest → Forest
  bang_tree children = tree_then kind.NonNullType 0 0 children nothing

  not_null : (children : Forest) (ty : TypeRef) → head (forms text file children) ≡ Some ty → head (forms text file (bang_tree children)) ≡ Some (non_null ty)
  unfolding form_step is_kind
  not_null children ty e = rw e refl

  pub non_null_named : (at : ℕ) (name : Named) → NameAt at name.text → MarkAt (at + length name.text) Bang
      → Read at (at + length name.text + 1) (NonNullNamed name)
  non_null_named at name a b =
      let end = at + length name.text in
      let found : Named = record { text = name.text; location = a.place } in
      record {
        children = bang_tree (named_tree at end (named_token end (end + 1)));
        tiles = (a.leaf, (b.leaf, refl));
        way = One rule.NonNullType ∷ [];
        one = there (there here);
        fits = λ vs. tree rule.NonNullType kind.NonNullType (One rule.TypeCore ∷ Token (Exactly Bang) ∷ []) refl here
            (group rule.TypeCore (One rule.NamedType ∷ []) refl here
            (tree rule.NamedType kind.NamedType (Token AnyName ∷ []) refl here (token AnyName _ a.takes done) (token (Exactly Bang) _ b.is done))) done;
        read = NonNullNamed found;
        means = not_null (named_tree at end (named_token end (end + 1))) (NamedType found) (named_means at end found (named_token end (end + 1)) a.is) ∙ ap (λ t. Some t) (non_null-Named found);
        same = unplaced-NonNullNamed found ∙ sym (unplaced-NonNullNamed name);
      }

  -- ---- lists

  abbrev list_inner : ℕ → ℕ → Forest → Forest
  list_inner at to item = tree_then kind.Token at (at + 1) nothing (tree_then kind.TypeReference 0 0 item (named_token to (to + 1)))

  abbrev list_tree : ℕ → ℕ → Forest → Forest → Forest
  list_tree at to item rest = tree_then kind.ListType 0 0 (list_inner at to item) rest

  list_means : (at to : ℕ) (item rest : Forest) (ty : TypeRef) → head (forms text file item) ≡ Some ty → head (forms text file (list_tree at to item rest)) ≡ Some (ListOf ty)
  unfolding form_step type_step is_kind
  list_means at to item rest ty e = rw e refl

  list_fits : {vs ws : List Word} {behind : Row} {ss : List Symbol} (at to : ℕ) (item : TypeRef) → (r : Read (at + 1) to item) → MarkAt at BracketOpen → MarkAt to BracketClose
      → Fits ss ws behind vs
      → Fits (One rule.ListType ∷ ss) (word_between text at (at + 1) ∷ (words text (leaves r.children) ++ (word_between text to (to + 1) ∷ ws)))
      (row.node kind.ListType (shown text (list_inner at to r.children)) behind) vs
  list_fits at to item r a b f =
      tree rule.ListType kind.ListType (Token (Exactly BracketOpen) ∷ One rule.TypeReference ∷ Token (Exactly BracketClose) ∷ []) refl here
      (token (Exactly BracketOpen) _ a.is (tree rule.TypeReference kind.TypeReference r.way refl r.one (r.fits _) (token (Exactly BracketClose) _ b.is done))) f

  list_tiles : (at to : ℕ) (item : TypeRef) (r : Read (at + 1) to item) → MarkAt to BracketClose → Tiles text (at + 1) (leaves r.children ++ (word_at to (to + 1) ∷ [])) (to + 1)
  list_tiles at to item r b = tiles_append text (leaves r.children) (word_at to (to + 1) ∷ []) (at + 1) to (to + 1) r.tiles (b.leaf, refl)

  pub list : (at to : ℕ) (item : TypeRef) → Read (at + 1) to item → MarkAt at BracketOpen → MarkAt to BracketClose → Read at (to + 1) (ListOf item)
  list at to item r a b = record {
    children = list_tree at to r.children nothing;
    tiles = (a.leaf, tiles_append text (leaves r.children ++ (word_at to (to + 1) ∷ [])) [] (at + 1) (to + 1) (to + 1) (list_tiles at to item r b) refl);
    way = One rule.ListType ∷ [];
    one = there here;
    fits = λ vs. subst (λ ws. Fits (One rule.ListType ∷ []) (word_between text at (at + 1) ∷ ws) (shown text (list_tree at to r.children nothing)) vs)
        (sym (words_then text (leaves r.children) to (to + 1) vs)) (list_fits at to item r a b done);
    read = ListOf r.read;
    means = list_means at to r.children nothing r.read r.means;
    same = unplaced-List r.read ∙ ap (λ t. ListOf t) r.same ∙ sym (unplaced-List item);
  }

  pub non_null_list : (at to : ℕ) (item : TypeRef) → Read (at + 1) to item → MarkAt at BracketOpen → MarkAt to BracketClose → MarkAt (to + 1) Bang
      → Read at (to + 1 + 1) (NonNullList item)
  non_null_list at to item r a b c =
      let inner = list_tree at to r.children (named_token (to + 1) (to + 1 + 1)) in
      let before = leaves r.children ++ (word_at to (to + 1) ∷ []) in
      record {
        children = bang_tree inner;
        tiles = (
          a.leaf,
          tiles_append text (before ++ (word_at (to + 1) (to + 1 + 1) ∷ [])) [] (at + 1) (to + 1 + 1) (to + 1 + 1)
              (tiles_append text before (word_at (to + 1) (to + 1 + 1) ∷ []) (at + 1) (to + 1) (to + 1 + 1) (list_tiles at to item r b) (c.leaf, refl)) refl,
        );
        way = One rule.NonNullType ∷ [];
        one = there (there here);
        fits = λ vs. subst (λ ws. Fits (One rule.NonNullType ∷ []) (word_between text at (at + 1) ∷ ws) (shown text (bang_tree inner)) vs)
            (sym (words_both text (leaves r.children) to (to + 1) (to + 1) (to + 1 + 1) vs))
            (tree rule.NonNullType kind.NonNullType (One rule.TypeCore ∷ Token (Exactly Bang) ∷ []) refl here
            (group rule.TypeCore (One rule.ListType ∷ []) refl (there here) (list_fits at to item r a b (token (Exactly Bang) _ c.is done))) done);
        read = NonNullList r.read;
        means = not_null inner (ListOf r.read) (list_means at to r.children (named_token (to + 1) (to + 1 + 1)) r.read r.means) ∙ ap (λ t. Some t) (non_null-List r.read);
        same = unplaced-NonNullList r.read ∙ ap (λ t. NonNullList t) r.same ∙ sym (unplaced-NonNullList item);
      }
