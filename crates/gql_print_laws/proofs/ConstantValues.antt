-- What a text stands for as a constant value is constant.
use Rattle.std.proofs.Common.{◌≡◌, ℕ, zero, suc, ◌++◌, Bool, true, false, if◌then◌else◌, List, [], ◌∷◌, length, map, option_to_list, Option, Some, None, refl, sym, ap, ◌∙◌, subst}
use Rattle.std.specs.Prelude.{not, ◌&&◌, option_and_then, slice_get, slice_range}
use Rattle.std.specs.Option.{option_map}
use Rattle.gql_source.specs.declared.file_id.FileId.{FileId}
use Rattle.gql_grammar.specs.declared.symbol.Terminal.TheVariants.{NameButLiteral}
use Rattle.gql_grammar.specs.declared.syntax_kind.SyntaxKind.{SyntaxKind}
use Rattle.gql_grammar.specs.declared.syntax_kind.SyntaxKind.TheVariants as kind
use Rattle.gql_grammar.specs.declared.word.Word.{Word}
use Rattle.gql_grammar.specs.Row as row
use Rattle.gql_grammar.specs.Row.{Row}
use Rattle.gql_grammar.specs.declared.word.Word.TheVariants.{BooleanWord, NullWord}
use Rattle.gql_grammar.specs.Word.{takes, is_same, is_name as names}
use Rattle.gql_cst.specs.Forest.{Forest, Plain, nothing, tree_then}
use Rattle.gql_cst.specs.Leaves.{Part, word, ignored, node, part_of, own_leaf, leaves}
use Rattle.gql_cst.specs.Sentences.{row_then, shown}
use Rattle.gql_cst.specs.Words.{word_of}
use Rattle.gql_ast_base.specs.Kinds.{is_kind}
use Rattle.gql_ast_base.specs.Names.{Named, is_name}
use Rattle.gql_ast_base.specs.Parts.{Text, head, gather, token_text, word as name_text, name_of, nth_name, location}
use Rattle.gql_ast_base.specs.Values.{literal, token_content, boolean_content, simple_content, content_step, pair_of, member_step, value_step, values, contents, members, value_of}
use Rattle.gql_ast_base.specs.bridge.Values.{content_of, member_of}
use Rattle.gql_ast_base.specs.declared.value.Value.{Value}
use Rattle.gql_ast_base.specs.declared.value.ValueKind.{ValueKind, List as ListKind, Object as ObjectKind}
use Rattle.gql_ast_base.specs.declared.value.ValueKind.TheVariants.{Null, Variable, Boolean, Enum}
use Rattle.gql_ast_laws.proofs.Kept.{Each, IfAny, then-each, head-any, if-any, else-any, map-any, map-always}
use Rattle.gql_ast_laws.proofs.Named.{nth_name-is}
use Rattle.gql_ast_laws.proofs.Shown.{AreSpelled, below-of, rest-of, tops-shown, tiled-spelled}
use Rattle.gql_ast_laws.proofs.TokenKinds.{word_is_token, no_token}
use Rattle.gql_ast_laws.proofs.Tops.{tops}
use Rattle.gql_print_laws.specs.Literal.{literal_of, literal_in, literals_of, pairs_of}
use Rattle.gql_print_laws.specs.ReadBack.{IsValueOf}
use Rattle.gql_print_laws.specs.Written as written
use Rattle.gql_print_laws.specs.Written.{IsConstant}
use Rattle.gql_print_laws.proofs.ConstantRows.{IsConstantRow, IsEnumRow, sentence_constant}
use Rattle.gql_print_laws.proofs.ConstantTokens.{IsConstantKind, AreConstantLeaves, tiled_constant, front_leaves, back_leaves}
use Rattle.gql_print_laws.proofs.Meaning.{seen, literal-Null, literal-Boolean, literal-Enum, literal-List, literal-Object}

abbrev IsConstantValue : Value → Type 0
IsConstantValue value = IsConstant (literal_in value)

abbrev IsConstantMember : Named × Value → Type 0
IsConstantMember member = (is_name member.0.text ≡ true) × IsConstant (literal_in member.1)

items_constant : (items : List Value) → Each IsConstantValue items → written.AreConstant (literals_of (map literal_in items))
items_constant [] each = tt
items_constant (item ∷ items) each = (each.0, items_constant items each.1)

pairs_constant : (pairs : List (Named × Value)) → Each IsConstantMember pairs → written.ArePairs (pairs_of (map seen pairs))
pairs_constant [] each = tt
pairs_constant (pair ∷ pairs) each = (each.0.0, (each.0.1, pairs_constant pairs each.1))

-- ---- names

module _ (text : Text) (file : FileId) where
  -- the names of a row, by their texts
  step_is : (t : Plain) (o : Option Text) → name_text text t ≡ o → (rest : Forest) → map (λ (n : Named). n.text) (gather (name_of text file) rest) ≡ gather (name_text text) rest
      → map (λ (n : Named). n.text) (option_to_list (name_of text file t) ++ gather (name_of text file) rest) ≡ option_to_list (name_text text t) ++ gather (name_text text) rest
  unfolding name_of
  step_is t None e rest h = rw e h
  step_is t (Some x) e rest h = rw e (ap (λ l. x ∷ l) h)

  texts_are : (f : Forest) → map (λ (n : Named). n.text) (gather (name_of text file) f) ≡ gather (name_text text) f
  texts_are nothing = refl
  texts_are (tree_then k start end children rest) =
      let t : Plain = record { kind = k; start = start; end = end; children = children } in
      step_is t (name_text text t) refl rest (texts_are rest)

  picked : (b : Bool) (x y : Text) → is_name x ≡ b → (if b then Some x else None) ≡ Some y → is_name y ≡ true
  picked true x y e h = let same : x ≡ y = cc in ap is_name (sym same) ∙ e
  picked false x y e h = absurd (cc)

  tested : (o : Option Text) (y : Text) → option_and_then (λ found. if is_name found then Some found else None) o ≡ Some y → is_name y ≡ true
  tested None y h = absurd (cc)
  tested (Some x) y h = picked (is_name x) x y refl h

  text_named : (t : Plain) (y : Text) → name_text text t ≡ Some y → is_name y ≡ true
  unfolding name_text
  text_named t y h = tested (token_text text t) y h

  at_named : (f : Forest) (n : ℕ) (y : Text) → slice_get (gather (name_text text) f) n ≡ Some y → is_name y ≡ true
  at_named nothing n y h = absurd (cc)
  at_named (tree_then k start end children rest) n y h =
      let t : Plain = record { kind = k; start = start; end = end; children = children } in
      by_text (name_text text t) refl n h (λ m g. at_named rest m y g) where
        by_text : (o : Option Text) → name_text text (record { kind = k; start = start; end = end; children = children }) ≡ o → (n : ℕ)
            → slice_get (option_to_list o ++ gather (name_text text) rest) n ≡ Some y
            → ((m : ℕ) → slice_get (gather (name_text text) rest) m ≡ Some y → is_name y ≡ true) → is_name y ≡ true
        by_text None e n h more = more n h
        by_text (Some x) e zero h more =
            let same : x ≡ y = cc in
            text_named (record { kind = k; start = start; end = end; children = children }) y (e ∙ ap (λ z. Some z) same)
        by_text (Some x) e (suc n) h more = more n h

  get_map : (xs : List Named) (n : ℕ) (x : Named) → slice_get xs n ≡ Some x → slice_get (map (λ (m : Named). m.text) xs) n ≡ Some x.text
  get_map [] n x h = absurd (cc)
  get_map (y ∷ xs) zero x h = let same : y ≡ x = cc in ap (λ (m : Named). Some m.text) same
  get_map (y ∷ xs) (suc n) x h = get_map xs n x h

  text_at : (f : Forest) (n : ℕ) (x : Named) → nth_name text file n f ≡ Some x → slice_get (gather (name_text text) f) n ≡ Some x.text
  text_at f n x h = ap (λ l. slice_get l n) (sym (texts_are f)) ∙ get_map (gather (name_of text file) f) n x (sym (nth_name-is text file n f) ∙ h)

  pub named : (f : Forest) (n : ℕ) (x : Named) → nth_name text file n f ≡ Some x → is_name x.text ≡ true
  named f n x h = at_named f n x.text (text_at f n x h)

  -- ---- enum values

  only_word : (w : Word) → takes NameButLiteral w ≡ true → tops (row.leaf w row.nothing) ≡ w ∷ []
  only_word w h = let n = left (names w) (not (is_same w BooleanWord)) (not (is_same w NullWord)) h in rw n refl where
    left : (a b c : Bool) → ((a && b) && c) ≡ true → a ≡ true
    left true b c h = refl
    left false b c h = absurd (cc)

  word_same : (xs : List Text) (t : Text) (w : Word) → map word_of xs ≡ w ∷ [] → slice_get xs 0 ≡ Some t → word_of t ≡ w
  word_same [] t w h e = absurd (cc)
  word_same (x ∷ xs) t w h e = cc

  enum_named : (f : Forest) (x : Named) → AreSpelled text (leaves f) → IsEnumRow (shown text f) → nth_name text file 0 f ≡ Some x → takes NameButLiteral (word_of x.text) ≡ true
  enum_named f x s r h =
      let words = tops-shown text f s ∙ ap tops r.is ∙ only_word r.word r.other in
      ap (λ w. takes NameButLiteral w) (word_same (gather (name_text text) f) x.text r.word words (text_at f 0 x h)) ∙ r.other

  -- ---- one tree

  enum_constant : (f : Forest) → AreSpelled text (leaves f) → IsEnumRow (shown text f) → IfAny IsConstantKind (option_map Enum (nth_name text file 0 f))
  enum_constant f s r = by_name (nth_name text file 0 f) refl where
    by_name : (o : Option Named) → nth_name text file 0 f ≡ o → IfAny IsConstantKind (option_map Enum o)
    by_name None e = tt
    by_name (Some x) e = subst IsConstant (sym (literal-Enum x)) (named f 0 x e, enum_named f x s r e)

  boolean_constant : (b : Bool) → IsConstantKind (Boolean b)
  boolean_constant b = subst IsConstant (sym (literal-Boolean b)) tt

  value_constant : (tree : Plain) (parts : List ValueKind) → Each IsConstantKind parts → IfAny IsConstantValue (value_step text file tree parts)
  unfolding value_step
  value_constant tree parts each =
      if-any IsConstantValue (is_kind tree.kind kind.Value) (option_map (λ found. record { kind = found; location = location file tree }) (head parts)) None
      (map-any IsConstantValue (λ found. record { kind = found; location = location file tree }) (head parts) (head-any IsConstantKind parts each)) tt

  member_constant : (tree : Plain) (items : List Value) → Each IsConstantValue items → IfAny IsConstantMember (member_step text file tree items)
  unfolding member_step
  member_constant tree items each =
      if-any IsConstantMember (is_kind tree.kind kind.ObjectField) (pair_of text file (nth_name text file 0 tree.children) (head items)) None
      (by_value (head items) (head-any IsConstantValue items each) (nth_name text file 0 tree.children) refl) tt
    where
      by_value : (o : Option Value) → IfAny IsConstantValue o → (p : Option Named) → nth_name text file 0 tree.children ≡ p → IfAny IsConstantMember (pair_of text file p o)
      by_value None h p e = tt
      by_value (Some given) h None e = tt
      by_value (Some given) h (Some x) e = (named tree.children 0 x e, h)

  -- ---- rows of trees

  record AreConstant (f : Forest) : Type 0 where
    of_values : Each IsConstantValue (values text file f)
    of_contents : Each IsConstantKind (contents text file f)
    of_members : Each IsConstantMember (members text file f)

  record IsTreeConstant (tree : Plain) : Type 0 where
    of_value : IfAny IsConstantValue (value_of text file tree)
    of_content : IfAny IsConstantKind (content_of text file tree)
    of_member : IfAny IsConstantMember (member_of text file tree)

  abbrev tree : SyntaxKind → ℕ → ℕ → Forest → Plain
  tree k start end children = record { kind = k; start = start; end = end; children = children }

  simple_constant : (k : SyntaxKind) (start end : ℕ) (children : Forest) → is_kind k kind.Token ≡ false → is_kind k kind.Variable ≡ false → AreSpelled text (leaves children)
      → (is_kind k kind.EnumValue ≡ true → IsEnumRow (shown text children)) → IfAny IsConstantKind (simple_content text file (tree k start end children))
  unfolding simple_content
  simple_constant k start end children token variable s enum =
      else-any IsConstantKind (is_kind k kind.Token) (token_content text (tree k start end children)) _ token
      (else-any IsConstantKind (is_kind k kind.Variable) (option_map Variable (nth_name text file 0 children)) _ variable
      (if-any IsConstantKind (is_kind k kind.BooleanValue) (boolean_content text children) _ (map-always IsConstantKind Boolean _ boolean_constant)
      (if-any IsConstantKind (is_kind k kind.NullValue) (Some Null) _ (subst IsConstant (sym literal-Null) tt)
      (by_enum (is_kind k kind.EnumValue) refl)))) where
        by_enum : (b : Bool) → is_kind k kind.EnumValue ≡ b → IfAny IsConstantKind (if b then option_map Enum (nth_name text file 0 children) else None)
        by_enum true e = enum_constant children s (enum e)
        by_enum false e = tt

  content_constant : (k : SyntaxKind) (start end : ℕ) (children : Forest) → IfAny IsConstantKind (simple_content text file (tree k start end children)) → AreConstant children
      → IfAny IsConstantKind (content_of text file (tree k start end children))
  unfolding content_step
  content_constant k start end children simple below =
      if-any IsConstantKind (is_kind k kind.ListValue) (Some (ListKind (values text file children))) _
      (subst IsConstant (sym (literal-List (values text file children))) (items_constant (values text file children) below.of_values))
      (if-any IsConstantKind (is_kind k kind.ObjectValue) (Some (ObjectKind (members text file children))) (simple_content text file (tree k start end children))
      (subst IsConstant (sym (literal-Object (members text file children))) (pairs_constant (members text file children) below.of_members)) simple)

  node_constant : (k : SyntaxKind) (start end : ℕ) (children : Forest) → part_of k ≡ node → is_kind k kind.Variable ≡ false → AreSpelled text (leaves children)
      → (is_kind k kind.EnumValue ≡ true → IsEnumRow (shown text children)) → AreConstant children → IsTreeConstant (tree k start end children)
  node_constant k start end children p variable s enum below = record {
    of_value = value_constant (tree k start end children) (contents text file children) below.of_contents;
    of_content = content_constant k start end children (simple_constant k start end children (no_token k p) variable s enum) below;
    of_member = member_constant (tree k start end children) (values text file children) below.of_values;
  }

  literal_any : (o : Option ValueKind) → ((k : ValueKind) → o ≡ Some k → IsConstantKind k) → IfAny IsConstantKind o
  literal_any None h = tt
  literal_any (Some k) h = h k refl

  word_any : (o : Option Text) → ((t : Text) → o ≡ Some t → (k : ValueKind) → literal t ≡ Some k → IsConstantKind k) → IfAny IsConstantKind (option_and_then literal o)
  word_any None h = tt
  word_any (Some t) h = literal_any (literal t) (h t refl)

  -- a token has its own text alone
  word_constant : (start end : ℕ) (children : Forest)
      → ((t : Text) → token_text text (tree kind.Token start end children) ≡ Some t → (k : ValueKind) → literal t ≡ Some k → IsConstantKind k) → IsTreeConstant (tree kind.Token start end children)
  unfolding value_step content_step simple_content member_step is_kind
  word_constant start end children h = record { of_value = tt; of_content = word_any (token_text text (tree kind.Token start end children)) h; of_member = tt }

  ignored_constant : (start end : ℕ) (children : Forest) → IsTreeConstant (tree kind.Ignored start end children)
  unfolding value_step content_step simple_content member_step is_kind
  ignored_constant start end children = record { of_value = tt; of_content = tt; of_member = tt }

  is_ignored : (k : SyntaxKind) → part_of k ≡ ignored → kind.Ignored ≡ k
  is_ignored kind.Ignored h = refl
  is_ignored _ h = cc

  with_rest : (k : SyntaxKind) (start end : ℕ) (children rest : Forest) → IsTreeConstant (tree k start end children) → AreConstant rest → AreConstant (tree_then k start end children rest)
  with_rest k start end children rest one behind = record {
    of_values = then-each IsConstantValue (value_of text file (tree k start end children)) (values text file rest) one.of_value behind.of_values;
    of_contents = then-each IsConstantKind (content_of text file (tree k start end children)) (contents text file rest) one.of_content behind.of_contents;
    of_members = then-each IsConstantMember (member_of text file (tree k start end children)) (members text file rest) one.of_member behind.of_members;
  }

  row_constant : (f : Forest) → IsConstantRow (shown text f) → AreSpelled text (leaves f) → AreConstantLeaves text (leaves f) → AreConstant f
  row_constant nothing h s l = record { of_values = tt; of_contents = tt; of_members = tt }
  row_constant (tree_then k start end children rest) h s l =
      let all = own_leaf (part_of k) start end ++ leaves children in
      let front = front_leaves text all (leaves rest) l in
      let own = front_leaves text (own_leaf (part_of k) start end) (leaves children) front in
      let below = back_leaves text (own_leaf (part_of k) start end) (leaves children) front in
      let behind = back_leaves text all (leaves rest) l in
      by_part (part_of k) refl h own (λ r. row_constant children r (below-of text k start end children rest s) below) (λ r. row_constant rest r (rest-of text k start end children rest s) behind)
    where
      by_part : (part : Part) → part_of k ≡ part → IsConstantRow (row_then part k (word_of (slice_range text start end)) (shown text children) (shown text rest))
          → AreConstantLeaves text (own_leaf part start end) → (IsConstantRow (shown text children) → AreConstant children) → (IsConstantRow (shown text rest) → AreConstant rest)
          → AreConstant (tree_then k start end children rest)
      by_part word is h own below behind =
          with_rest k start end children rest
          (subst (λ j. IsTreeConstant (tree j start end children)) (word_is_token k is) (word_constant start end children (λ t e. own.0 refl children t e))) (behind h)
      by_part ignored is h own below behind =
          with_rest k start end children rest (subst (λ j. IsTreeConstant (tree j start end children)) (is_ignored k is) (ignored_constant start end children)) (behind h)
      by_part node is h own below behind =
          with_rest k start end children rest (node_constant k start end children is h.0 (below-of text k start end children rest s) h.1.0 (below h.1.1.0)) (behind h.1.1.1)

head_each : (ks : List ValueKind) (k : ValueKind) → Each IsConstantKind ks → head ks ≡ Some k → IsConstantKind k
head_each [] k each h = absurd (cc)
head_each (x ∷ ks) k each h = let same : x ≡ k = cc in subst IsConstantKind same each.0

pub value_is_constant : (text : Text) (file : FileId) (meant : ValueKind) → IsValueOf text file meant → IsConstant (literal_of meant)
value_is_constant text file meant v =
    let f = v.children in
    let all = row_constant text file f (sentence_constant (shown text f) v.tree.sentence) (tiled-spelled text 0 (leaves f) (length text) v.tree.tiles)
    (tiled_constant text 0 (leaves f) (length text) v.tree.tiles) in
    head_each (contents text file f) meant all.of_contents v.means
