-- Trees in which no variable stands are constant values, and the tree of a default is one.
use Rattle.std.proofs.Common.{◌≡◌, ℕ, Bool, true, false, ◌&&◌, if◌then◌else◌, List, [], ◌∷◌, ◌++◌, map, option_to_list, Option, Some, None, refl, sym, ap, ◌∙◌, subst}
use Rattle.std.specs.Prelude.{slice_range}
use Rattle.std.specs.List.{list_any}
use Rattle.std.specs.Option.{option_map}
use Rattle.gql_source.specs.declared.file_id.FileId.{FileId}
use Rattle.gql_grammar.specs.declared.syntax_kind.SyntaxKind.{SyntaxKind}
use Rattle.gql_grammar.specs.declared.syntax_kind.SyntaxKind.TheVariants as kind
use Rattle.gql_grammar.specs.Nodes.{AllAllowed}
use Rattle.gql_cst.specs.Forest.{Forest, Plain, nothing, tree_then}
use Rattle.gql_cst.specs.Leaves.{Part, word, ignored, node, part_of}
use Rattle.gql_cst.specs.Sentences.{row_then, shown}
use Rattle.gql_cst.specs.Words.{word_of}
use Rattle.gql_ast_base.specs.Kinds.{is_kind}
use Rattle.gql_ast_base.specs.Literals.{opens_string, string_text, opens_number, has_part}
use Rattle.gql_ast_base.specs.Names.{Named}
use Rattle.gql_ast_base.specs.Parts.{Text, head, first, gather, child, children_of, inside, token_text, nth_name, location}
use Rattle.gql_ast_base.specs.declared.value.Value.{Value}
use Rattle.gql_ast_base.specs.declared.value.ValueKind.{ValueKind, List as ListKind, Object as ObjectKind}
use Rattle.gql_ast_base.specs.declared.value.ValueKind.TheVariants.{Null, Variable, Int, Float, String, Boolean, Enum}
use Rattle.gql_ast_base.specs.Values.{number_kind, literal, token_content, boolean_content, simple_content, content_step, pair_of, member_step, value_step, values, contents, members, value_of, default_value}
use Rattle.gql_ast_base.specs.bridge.Values.{content_of, member_of}
use Rattle.gql_ast_laws.proofs.Inner.{both_ways, node_of, here, later}
use Rattle.gql_ast_laws.proofs.Shown.{node-row, rest-row}
use Rattle.gql_ast_laws.proofs.TokenKinds.{word_is_token, kind_is}
use Rattle.gql_ast_laws.specs.Constants.{all_true, all_members_true, is_constant_kind, is_constant, is_constant_default}
use Rattle.gql_ast_laws.proofs.Constants.{constant-Null, constant-Int, constant-Float, constant-String, constant-Boolean, constant-Enum, constant-List, judged, constant-Object}
use Rattle.gql_ast_laws.proofs.Kept.{Each, IfAny, then-each, head-any, if-any, else-any, map-any, map-always, then-always}
use Rattle.gql_ast_laws.proofs.Rows.{NoVariable, default-free}

abbrev pub IsConstant : Value → Type 0
IsConstant value = is_constant value ≡ true

abbrev IsConstantKind : ValueKind → Type 0
IsConstantKind found = is_constant_kind found ≡ true

abbrev IsConstantMember : Named × Value → Type 0
IsConstantMember member = is_constant member.1 ≡ true

and-true : (a b : Bool) → a ≡ true → b ≡ true → (a && b) ≡ true
and-true true true a b = refl
and-true true false a b = b
and-true false b a c = absurd (cc)

items-true : (items : List Value) → Each IsConstant items → all_true (map is_constant items) ≡ true
items-true [] each = refl
items-true (item ∷ items) each = and-true (is_constant item) (all_true (map is_constant items)) each.0 (items-true items each.1)

pairs-true : (pairs : List (Named × Value)) → Each IsConstantMember pairs → all_members_true (map judged pairs) ≡ true
pairs-true [] each = refl
pairs-true (pair ∷ pairs) each = and-true (is_constant pair.1) (all_members_true (map judged pairs)) each.0 (pairs-true pairs each.1)

-- ---- one tree

number-constant : (token : Text) → IsConstantKind (number_kind token)
number-constant token = by_test (list_any has_part token)
  where
    by_test : (b : Bool) → IsConstantKind (if b then Float token else Int token)
    by_test true = constant-Float token
    by_test false = constant-Int token

literal-constant : (token : Text) → IfAny IsConstantKind (literal token)
unfolding literal
literal-constant token =
    if-any IsConstantKind (opens_string token) (Some (String (string_text token))) (if opens_number token then Some (number_kind token) else None) (constant-String (string_text token))
    (if-any IsConstantKind (opens_number token) (Some (number_kind token)) None (number-constant token) tt)

module _ (text : Text) (file : FileId) where
  simple-constant : (tree : Plain) → is_kind tree.kind kind.Variable ≡ false → IfAny IsConstantKind (simple_content text file tree)
  unfolding simple_content
  simple-constant tree other =
      let is = is_kind tree.kind in
      let row = tree.children in
      if-any IsConstantKind (is kind.Token) (token_content text tree) _ (then-always IsConstantKind literal (token_text text tree) literal-constant)
      (else-any IsConstantKind (is kind.Variable) (option_map Variable (nth_name text file 0 row)) _ other
      (if-any IsConstantKind (is kind.BooleanValue) (boolean_content text row) _ (map-always IsConstantKind Boolean _ constant-Boolean)
      (if-any IsConstantKind (is kind.NullValue) (Some Null) _ constant-Null
      (if-any IsConstantKind (is kind.EnumValue) (option_map Enum (nth_name text file 0 row)) None (map-always IsConstantKind Enum (nth_name text file 0 row) constant-Enum) tt))))

  content-constant : (tree : Plain) (items : List Value) (pairs : List (Named × Value)) → is_kind tree.kind kind.Variable ≡ false → Each IsConstant items → Each IsConstantMember pairs
      → IfAny IsConstantKind (content_step text file tree items pairs)
  unfolding content_step
  content-constant tree items pairs other each each_pair =
      if-any IsConstantKind (is_kind tree.kind kind.ListValue) (Some (ListKind items)) _ (constant-List items ∙ items-true items each)
      (if-any IsConstantKind (is_kind tree.kind kind.ObjectValue) (Some (ObjectKind pairs)) (simple_content text file tree) (constant-Object pairs ∙ pairs-true pairs each_pair)
      (simple-constant tree other))

  value-constant : (tree : Plain) (parts : List ValueKind) → Each IsConstantKind parts → IfAny IsConstant (value_step text file tree parts)
  unfolding value_step
  value-constant tree parts each =
      if-any IsConstant (is_kind tree.kind kind.Value) (option_map (λ found. record { kind = found; location = location file tree }) (head parts)) None
      (map-any IsConstant (λ found. record { kind = found; location = location file tree }) (head parts) (head-any IsConstantKind parts each)) tt

  member-constant : (tree : Plain) (items : List Value) → Each IsConstant items → IfAny IsConstantMember (member_step text file tree items)
  unfolding member_step
  member-constant tree items each =
      if-any IsConstantMember (is_kind tree.kind kind.ObjectField) (pair_of text file (nth_name text file 0 tree.children) (head items)) None
      (by_value (head items) (head-any IsConstant items each)) tt
    where
      by_value : (o : Option Value) → IfAny IsConstant o → IfAny IsConstantMember (pair_of text file (nth_name text file 0 tree.children) o)
      by_value None h = tt
      by_value (Some given) h = map-always IsConstantMember (λ found. (found, given)) (nth_name text file 0 tree.children) (λ found. h)

  -- ---- rows of trees

  record AreConstant (row : Forest) : Type 0 where
    of_values : Each IsConstant (values text file row)
    of_contents : Each IsConstantKind (contents text file row)
    of_members : Each IsConstantMember (members text file row)

  record IsTreeConstant (tree : Plain) : Type 0 where
    of_value : IfAny IsConstant (value_of text file tree)
    of_content : IfAny IsConstantKind (content_of text file tree)
    of_member : IfAny IsConstantMember (member_of text file tree)

  abbrev tree : SyntaxKind → ℕ → ℕ → Forest → Plain
  tree k start end children = record { kind = k; start = start; end = end; children = children }

  node-constant : (k : SyntaxKind) (start end : ℕ) (children : Forest) → is_kind k kind.Variable ≡ false → AreConstant children → IsTreeConstant (tree k start end children)
  node-constant k start end children other below = record {
    of_value = value-constant (tree k start end children) (contents text file children) below.of_contents;
    of_content = content-constant (tree k start end children) (values text file children) (members text file children) other below.of_values below.of_members;
    of_member = member-constant (tree k start end children) (values text file children) below.of_values;
  }

  -- a token has its own text alone
  word-constant : (start end : ℕ) (children : Forest) → IsTreeConstant (tree kind.Token start end children)
  unfolding value_step content_step simple_content member_step is_kind
  word-constant start end children = record {
    of_value = tt;
    of_content = then-always IsConstantKind literal (token_text text (tree kind.Token start end children)) literal-constant;
    of_member = tt;
  }

  ignored-constant : (start end : ℕ) (children : Forest) → IsTreeConstant (tree kind.Ignored start end children)
  unfolding value_step content_step simple_content member_step is_kind
  ignored-constant start end children = record { of_value = tt; of_content = tt; of_member = tt }

  is-ignored : (k : SyntaxKind) → part_of k ≡ ignored → kind.Ignored ≡ k
  is-ignored kind.Ignored h = refl
  is-ignored _ h = cc

  row-constant : (row : Forest) → NoVariable (shown text row) → AreConstant row
  row-constant nothing h = record { of_values = tt; of_contents = tt; of_members = tt }
  row-constant (tree_then k start end children rest) h = by_part (part_of k) refl h (row-constant children) (row-constant rest)
    where
      with-rest : IsTreeConstant (tree k start end children) → AreConstant rest → AreConstant (tree_then k start end children rest)
      with-rest one behind = record {
        of_values = then-each IsConstant (value_of text file (tree k start end children)) (values text file rest) one.of_value behind.of_values;
        of_contents = then-each IsConstantKind (content_of text file (tree k start end children)) (contents text file rest) one.of_content behind.of_contents;
        of_members = then-each IsConstantMember (member_of text file (tree k start end children)) (members text file rest) one.of_member behind.of_members;
      }

      by_part : (part : Part) → part_of k ≡ part → NoVariable (row_then part k (word_of (slice_range text start end)) (shown text children) (shown text rest))
          → (NoVariable (shown text children) → AreConstant children) → (NoVariable (shown text rest) → AreConstant rest) → AreConstant (tree_then k start end children rest)
      by_part word is h below behind =
          with-rest (subst (λ j. IsTreeConstant (tree j start end children)) (word_is_token k is) (word-constant start end children)) (behind h)
      by_part ignored is h below behind =
          with-rest (subst (λ j. IsTreeConstant (tree j start end children)) (is-ignored k is) (ignored-constant start end children)) (behind h)
      by_part node is h below behind = with-rest (node-constant k start end children h.0 (below h.1.0)) (behind h.1.1)

  values-are : (row : Forest) → values text file row ≡ gather (value_of text file) row
  values-are nothing = refl
  values-are (tree_then k start end children rest) = ap (λ l. option_to_list (value_of text file (tree k start end children)) ++ l) (values-are rest)

  -- ---- defaults

  inside-free : (row : Forest) → AllAllowed (shown text row) → NoVariable (shown text (inside kind.DefaultValue row))
  inside-free nothing a = tt
  inside-free (tree_then k start end children rest) a =
      let w = word_of (slice_range text start end) in
      both_ways (is_kind k kind.DefaultValue)
      (λ e.
      subst (λ (o : Option Plain). NoVariable (shown text (children_of o))) (sym (here kind.DefaultValue k start end children rest e))
      (default-free (shown text children)
      (node-row text kind.DefaultValue k (part_of k) w (shown text children) (shown text rest) (node_of k kind.DefaultValue refl e) (sym (kind_is k kind.DefaultValue e)) a).0))
      (λ e.
      subst (λ (o : Option Plain). NoVariable (shown text (children_of o))) (sym (later kind.DefaultValue k start end children rest e))
      (inside-free rest (rest-row text (part_of k) k w (shown text children) (shown text rest) a)))

  default-true : (o : Option Value) → IfAny IsConstant o → is_constant_default o ≡ true
  default-true None h = refl
  default-true (Some value) h = h

  pub default-constant : (row : Forest) → AllAllowed (shown text row) → is_constant_default (default_value text file row) ≡ true
  unfolding default_value
  default-constant row a =
      let found = inside kind.DefaultValue row in
      default-true (first (value_of text file) found)
      (head-any IsConstant (gather (value_of text file) found) (subst (Each IsConstant) (values-are found) ((row-constant found (inside-free row a)).of_values)))
