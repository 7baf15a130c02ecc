-- A value that a text stands for is nested no deeper than the text.
use Rattle.std.proofs.Common.{◌≡◌, ℕ, ◌+◌, ◌≤◌, max, Bool, true, false, if◌then◌else◌, List, [], ◌∷◌, map, Option, Some, None, refl, ap, subst, arith, rules}
use Rattle.std.specs.List.{list_any}
use Rattle.std.specs.Option.{option_map}
use Rattle.gql_source.specs.declared.file_id.FileId.{FileId}
use Rattle.gql_grammar.specs.Row.{level}
use Rattle.gql_grammar.specs.declared.syntax_kind.SyntaxKind.{SyntaxKind}
use Rattle.gql_grammar.specs.declared.syntax_kind.SyntaxKind.TheVariants as kind
use Rattle.gql_cst.specs.Forest.{Forest, Plain, nothing, tree_then}
use Rattle.gql_cst.specs.Leaves.{Part, word, ignored, node, part_of}
use Rattle.gql_cst.specs.Nesting.{nesting, within_node}
use Rattle.gql_ast_base.specs.Kinds.{is_kind}
use Rattle.gql_ast_base.specs.Literals.{opens_string, string_text, opens_number, has_part}
use Rattle.gql_ast_base.specs.Names.{Named}
use Rattle.gql_ast_base.specs.Parts.{Text, head, token_text, nth_name, location}
use Rattle.gql_ast_base.specs.Values.{number_kind, literal, token_content, boolean_content, simple_content, content_step, pair_of, member_step, value_step, values, contents, members, value_of}
use Rattle.gql_ast_base.specs.bridge.Values.{content_of, member_of}
use Rattle.gql_ast_base.specs.declared.value.Value.{Value}
use Rattle.gql_ast_base.specs.declared.value.ValueKind.{ValueKind, List as ListKind, Object as ObjectKind, the_lemmas}
use Rattle.gql_ast_base.specs.declared.value.ValueKind.TheVariants.{Null, Variable, Int, Float, String, Boolean, Enum}
use Rattle.gql_ast_laws.proofs.Blind.{tree}
use Rattle.gql_ast_laws.proofs.Kept.{Each, IfAny, then-each, head-any, if-any, map-any, map-always, then-always}
use Rattle.gql_ast_laws.proofs.TokenKinds.{kind_is, word_is_token}
use Rattle.gql_print_laws.specs.Literal as lit
use Rattle.gql_print_laws.specs.Literal.{literal_of, literal_in, literals_of, pairs_of}
use Rattle.gql_print_laws.specs.ReadBack.{IsValueOf}
use Rattle.gql_print_laws.proofs.Meaning.{seen, literal-Null, literal-Int, literal-Float, literal-String, literal-Boolean, literal-Enum, literal-List, literal-Object}
use Rattle.gql_print_laws.specs.Depth.{literal_depth, literals_depth, pairs_depth}

literal-Variable : (name : Named) → literal_of (Variable name) ≡ lit.variable name.text
literal-Variable name = search (rules, the_lemmas)

abbrev KindWithin : ℕ → ValueKind → Type 0
KindWithin n found = literal_depth (literal_of found) ≤ n

abbrev ValueWithin : ℕ → Value → Type 0
ValueWithin n value = literal_depth (literal_in value) ≤ n

abbrev MemberWithin : ℕ → Named × Value → Type 0
MemberWithin n member = literal_depth (literal_in member.1) ≤ n

each_map : {X : Type 0} (P Q : X → Type 0) → ((x : X) → P x → Q x) → (xs : List X) → Each P xs → Each Q xs
each_map P Q f [] h = tt
each_map P Q f (x ∷ xs) h = (f x h.0, each_map P Q f xs h.1)

any_map : {X : Type 0} (P Q : X → Type 0) → ((x : X) → P x → Q x) → (o : Option X) → IfAny P o → IfAny Q o
any_map P Q f None h = tt
any_map P Q f (Some x) h = f x h

items_within : (n : ℕ) (items : List Value) → Each (ValueWithin n) items → literals_depth (literals_of (map literal_in items)) ≤ n
items_within n [] h = omega arith
items_within n (item ∷ items) h = let a = h.0 in let b = items_within n items h.1 in omega (arith, a, b)

pairs_within : (n : ℕ) (pairs : List (Named × Value)) → Each (MemberWithin n) pairs → pairs_depth (pairs_of (map seen pairs)) ≤ n
pairs_within n [] h = omega arith
pairs_within n (pair ∷ pairs) h = let a = h.0 in let b = pairs_within n pairs h.1 in omega (arith, a, b)

-- ---- values that hold no others

flat : (n : ℕ) (k : ValueKind) → literal_depth (literal_of k) ≡ 0 → KindWithin n k
flat n k h = omega (arith, h)

number_flat : (n : ℕ) (t : Text) → KindWithin n (number_kind t)
number_flat n t = by_test (list_any has_part t) where
  by_test : (b : Bool) → KindWithin n (if b then Float t else Int t)
  by_test true = flat n (Float t) (ap literal_depth (literal-Float t))
  by_test false = flat n (Int t) (ap literal_depth (literal-Int t))

literal_flat : (n : ℕ) (t : Text) → IfAny (KindWithin n) (literal t)
unfolding literal
literal_flat n t =
    if-any (KindWithin n) (opens_string t) (Some (String (string_text t))) (if opens_number t then Some (number_kind t) else None)
    (flat n (String (string_text t)) (ap literal_depth (literal-String (string_text t))))
    (if-any (KindWithin n) (opens_number t) (Some (number_kind t)) None (number_flat n t) tt)

module _ (text : Text) (file : FileId) where
  simple_flat : (n : ℕ) (t : Plain) → IfAny (KindWithin n) (simple_content text file t)
  unfolding simple_content
  simple_flat n t =
      if-any (KindWithin n) (is_kind t.kind kind.Token) (token_content text t) _ (then-always (KindWithin n) literal (token_text text t) (literal_flat n))
      (if-any (KindWithin n) (is_kind t.kind kind.Variable) (option_map Variable (nth_name text file 0 t.children)) _
      (map-always (KindWithin n) Variable (nth_name text file 0 t.children) (λ x. flat n (Variable x) (ap literal_depth (literal-Variable x))))
      (if-any (KindWithin n) (is_kind t.kind kind.BooleanValue) (boolean_content text t.children) _
      (map-always (KindWithin n) Boolean _ (λ b. flat n (Boolean b) (ap literal_depth (literal-Boolean b))))
      (if-any (KindWithin n) (is_kind t.kind kind.NullValue) (Some Null) _ (flat n Null (ap literal_depth literal-Null))
      (if-any (KindWithin n) (is_kind t.kind kind.EnumValue) (option_map Enum (nth_name text file 0 t.children)) None
      (map-always (KindWithin n) Enum (nth_name text file 0 t.children) (λ x. flat n (Enum x) (ap literal_depth (literal-Enum x)))) tt))))

  -- ---- one node

  record Within (f : Forest) : Type 0 where
    of_values : Each (ValueWithin (nesting f)) (values text file f)
    of_contents : Each (KindWithin (nesting f)) (contents text file f)
    of_members : Each (MemberWithin (nesting f)) (members text file f)

  record IsTreeWithin (n : ℕ) (t : Plain) : Type 0 where
    of_value : IfAny (ValueWithin n) (value_of text file t)
    of_content : IfAny (KindWithin n) (content_of text file t)
    of_member : IfAny (MemberWithin n) (member_of text file t)

  value_within : (n : ℕ) (t : Plain) (parts : List ValueKind) → Each (KindWithin n) parts → IfAny (ValueWithin n) (value_step text file t parts)
  unfolding value_step
  value_within n t parts each =
      if-any (ValueWithin n) (is_kind t.kind kind.Value) (option_map (λ found. record { kind = found; location = location file t }) (head parts)) None
      (map-any (ValueWithin n) (λ found. record { kind = found; location = location file t }) (head parts) (head-any (KindWithin n) parts each)) tt

  member_within : (n : ℕ) (t : Plain) (items : List Value) → Each (ValueWithin n) items → IfAny (MemberWithin n) (member_step text file t items)
  unfolding member_step
  member_within n t items each =
      if-any (MemberWithin n) (is_kind t.kind kind.ObjectField) (pair_of text file (nth_name text file 0 t.children) (head items)) None
      (by_value (head items) (head-any (ValueWithin n) items each)) tt where
        by_value : (o : Option Value) → IfAny (ValueWithin n) o → IfAny (MemberWithin n) (pair_of text file (nth_name text file 0 t.children) o)
        by_value None h = tt
        by_value (Some given) h = map-always (MemberWithin n) (λ found. (found, given)) (nth_name text file 0 t.children) (λ found. h)

  list_level : (k : SyntaxKind) → is_kind k kind.ListValue ≡ true → level k ≡ 1
  list_level k e = ap level (kind_is k kind.ListValue e)

  object_level : (k : SyntaxKind) → is_kind k kind.ObjectValue ≡ true → level k ≡ 1
  object_level k e = ap level (kind_is k kind.ObjectValue e)

  content_within : (k : SyntaxKind) (start end : ℕ) (children : Forest) → Within children → IfAny (KindWithin (level k + nesting children)) (content_of text file (tree k start end children))
  unfolding content_step
  content_within k start end children below =
      by_list (is_kind k kind.ListValue) refl (is_kind k kind.ObjectValue) refl where
        n : ℕ
        n = level k + nesting children

        by_list : (b : Bool) → is_kind k kind.ListValue ≡ b → (c : Bool) → is_kind k kind.ObjectValue ≡ c
            → IfAny (KindWithin (level k + nesting children)) (if b then Some (ListKind (values text file children)) else (if c then Some (ObjectKind (members text file children)) else simple_content text file (tree k start end children)))
        by_list true e c g =
            let a = items_within (nesting children) (values text file children) below.of_values in
            let b = ap literal_depth (literal-List (values text file children)) in
            let one = list_level k e in
            omega (arith, a, b, one)
        by_list false e true g =
            let a = pairs_within (nesting children) (members text file children) below.of_members in
            let b = ap literal_depth (literal-Object (members text file children)) in
            let one = object_level k g in
            omega (arith, a, b, one)
        by_list false e false g = simple_flat (level k + nesting children) (tree k start end children)

  node_within : (k : SyntaxKind) (start end : ℕ) (children : Forest) → Within children → IsTreeWithin (level k + nesting children) (tree k start end children)
  node_within k start end children below =
      let n = level k + nesting children in
      record {
        of_value = value_within n (tree k start end children) (contents text file children)
            (each_map (KindWithin (nesting children)) (KindWithin n) (λ x h. omega (arith, h)) (contents text file children) below.of_contents);
        of_content = content_within k start end children below;
        of_member = member_within n (tree k start end children) (values text file children)
            (each_map (ValueWithin (nesting children)) (ValueWithin n) (λ x h. omega (arith, h)) (values text file children) below.of_values);
      }

  word_within : (n start end : ℕ) (children : Forest) → IsTreeWithin n (tree kind.Token start end children)
  unfolding value_step content_step member_step is_kind
  word_within n start end children = record { of_value = tt; of_content = simple_flat n (tree kind.Token start end children); of_member = tt }

  ignored_within : (n start end : ℕ) (children : Forest) → IsTreeWithin n (tree kind.Ignored start end children)
  unfolding value_step content_step simple_content member_step is_kind
  ignored_within n start end children = record { of_value = tt; of_content = tt; of_member = tt }

  is_ignored : (k : SyntaxKind) → part_of k ≡ ignored → kind.Ignored ≡ k
  is_ignored kind.Ignored h = refl
  is_ignored _ h = cc

  -- ---- rows of trees

  with_rest : (k : SyntaxKind) (start end : ℕ) (children rest : Forest) (n m : ℕ) → n ≤ m → nesting rest ≤ m → IsTreeWithin n (tree k start end children) → Within rest
      → (Each (ValueWithin m) (values text file (tree_then k start end children rest)) × Each (KindWithin m) (contents text file (tree_then k start end children rest)))
      × Each (MemberWithin m) (members text file (tree_then k start end children rest))
  with_rest k start end children rest n m le more one behind = (
    (
      then-each (ValueWithin m) (value_of text file (tree k start end children)) (values text file rest)
          (any_map (ValueWithin n) (ValueWithin m) (λ x h. omega (arith, h, le)) (value_of text file (tree k start end children)) one.of_value)
          (each_map (ValueWithin (nesting rest)) (ValueWithin m) (λ x h. omega (arith, h, more)) (values text file rest) behind.of_values),
      then-each (KindWithin m) (content_of text file (tree k start end children)) (contents text file rest)
          (any_map (KindWithin n) (KindWithin m) (λ x h. omega (arith, h, le)) (content_of text file (tree k start end children)) one.of_content)
          (each_map (KindWithin (nesting rest)) (KindWithin m) (λ x h. omega (arith, h, more)) (contents text file rest) behind.of_contents),
    ),
    then-each (MemberWithin m) (member_of text file (tree k start end children)) (members text file rest)
        (any_map (MemberWithin n) (MemberWithin m) (λ x h. omega (arith, h, le)) (member_of text file (tree k start end children)) one.of_member)
        (each_map (MemberWithin (nesting rest)) (MemberWithin m) (λ x h. omega (arith, h, more)) (members text file rest) behind.of_members),
  )

  row_within : (f : Forest) → Within f
  row_within nothing = record { of_values = tt; of_contents = tt; of_members = tt }
  row_within (tree_then k start end children rest) =
      let own = within_node (part_of k) (level k + nesting children) in
      let all = with_rest k start end children rest own (max own (nesting rest)) (omega arith) (omega arith) (by_part (part_of k) refl (row_within children)) (row_within rest) in
      record { of_values = all.0.0; of_contents = all.0.1; of_members = all.1 } where
        by_part : (part : Part) → part_of k ≡ part → Within children → IsTreeWithin (within_node part (level k + nesting children)) (tree k start end children)
        by_part word is below = subst (λ j. IsTreeWithin 0 (tree j start end children)) (word_is_token k is) (word_within 0 start end children)
        by_part ignored is below = subst (λ j. IsTreeWithin 0 (tree j start end children)) (is_ignored k is) (ignored_within 0 start end children)
        by_part node is below = node_within k start end children below

head_each : (n : ℕ) (ks : List ValueKind) (k : ValueKind) → Each (KindWithin n) ks → head ks ≡ Some k → KindWithin n k
head_each n [] k each h = absurd (cc)
head_each n (x ∷ ks) k each h = let same : x ≡ k = cc in subst (KindWithin n) same each.0

pub value_is_within : (text : Text) (file : FileId) (read : ValueKind) (is : IsValueOf text file read) → literal_depth (literal_of read) ≤ nesting is.children
value_is_within text file read is = head_each (nesting is.children) (contents text file is.children) read (row_within text file is.children).of_contents is.means
