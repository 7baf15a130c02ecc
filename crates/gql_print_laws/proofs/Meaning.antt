-- What the trees of a literal stand for is the literal, the places aside.
use Rattle.std.proofs.Common.{◌≡◌, ℕ, ◌+◌, ◌≤◌, Bool, true, false, List, [], ◌∷◌, ◌++◌, length, map, Some, refl, ap, ◌∙◌, subst, arith, rules, append-nil}
use Rattle.std.specs.Prelude.{nat_le}
use Rattle.gql_source.specs.declared.file_id.FileId.{FileId}
use Rattle.gql_grammar.specs.declared.syntax_kind.SyntaxKind.TheVariants as kind
use Rattle.gql_cst.specs.Forest.{Forest, Plain, nothing, tree_then}
use Rattle.gql_cst.specs.Leaves.{word}
use Rattle.gql_ast_base.specs.Kinds.{is_kind}
use Rattle.gql_ast_base.specs.Names.{Named, is_name}
use Rattle.gql_ast_base.specs.Parts.{head, piece, token_text, word as name_text, name_of, nth_text, nth_name, location}
use Rattle.gql_ast_base.specs.Values.{literal, simple_content, content_step, member_step, value_step, values, contents, members}
use Rattle.gql_ast_base.specs.declared.value.Value.{Value}
use Rattle.gql_ast_base.specs.declared.value.ValueKind.{ValueKind, Null, Int, Float, String, Boolean, Enum, List as ListKind, Object as ObjectKind, the_lemmas}
use Rattle.gql_print_laws.specs.Literal as lit
use Rattle.gql_print_laws.specs.Literal.{Literal, Literals, no_literal, literal_then, Pairs, no_pair, pair_then, literals_of, pairs_of, literal_of, literal_in}
use Rattle.jb_print.specs.Quoted.{quoted}
use Rattle.gql_print_laws.specs.bridge.Said.{Text, Said, text_of, forest_at, IsPiece, Lexes}
use Rattle.gql_print_laws.specs.Written.{IsConstant, AreConstant, ArePairs}
use Rattle.gql_print_laws.specs.bridge.Written.{truth_word, content_said, items_said, more_items, pairs_said, more_pairs}
use Rattle.gql_print_laws.proofs.Rest.{Rest, cut, boundary}
use Rattle.gql_print_laws.proofs.Laid.{piece_leaf, first_part, second_part}
use Rattle.gql_print_laws.proofs.NumberWords.{int_stands, float_stands}
use Rattle.gql_print_laws.proofs.Strings.{string_stands}

-- ---- levels of literals

pub literal-Null : literal_of Null ≡ lit.null
literal-Null = search (rules, the_lemmas)

pub literal-Int : (t : Text) → literal_of (Int t) ≡ lit.int t
literal-Int t = search (rules, the_lemmas)

pub literal-Float : (t : Text) → literal_of (Float t) ≡ lit.float t
literal-Float t = search (rules, the_lemmas)

pub literal-String : (t : Text) → literal_of (String t) ≡ lit.string t
literal-String t = search (rules, the_lemmas)

pub literal-Boolean : (b : Bool) → literal_of (Boolean b) ≡ lit.truth b
literal-Boolean b = search (rules, the_lemmas)

pub literal-Enum : (n : Named) → literal_of (Enum n) ≡ lit.name n.text
literal-Enum n = search (rules, the_lemmas)

pub literal-List : (items : List Value) → literal_of (ListKind items) ≡ lit.list (literals_of (map literal_in items))
literal-List items = search (rules, the_lemmas)

-- a name beside the literal of its value
abbrev pub seen : Named × Value → Named × Literal
seen member = (member.0, literal_in member.1)

pub literal-Object : (members : List (Named × Value)) → literal_of (ObjectKind members) ≡ lit.object (pairs_of (map seen members))
literal-Object members = search (rules, the_lemmas)

string_literal : (t : Text) → literal (quoted t) ≡ Some (String t)
unfolding literal
string_literal t = ap (λ x. Some (String x)) (string_stands t)

module _ (text : Text) (file : FileId) where
  abbrev leaf_tree : ℕ → Text → Plain
  leaf_tree n t = record { kind = kind.Token; start = n; end = n + length t; children = nothing }

  token_is : (n : ℕ) (t rest : Text) → Rest text n (t ++ rest) → IsPiece word t rest → token_text text (leaf_tree n t) ≡ Some t
  unfolding token_text piece is_kind
  token_is n t rest r p =
      let l = piece_leaf word text n t rest r p in
      let le : n ≤ n + length t = omega arith in
      let order : nat_le n (n + length t) ≡ true = grind (arith, le) in
      rw (order, boundary text n l.starts_character, boundary text (n + length t) l.ends_character, cut text n t rest r) refl

  word_is : (n : ℕ) (t rest : Text) → Rest text n (t ++ rest) → IsPiece word t rest → is_name t ≡ true → name_text text (leaf_tree n t) ≡ Some t
  unfolding name_text
  word_is n t rest r p h = rw (token_is n t rest r p, h) refl

  name_is : (n : ℕ) (t rest : Text) (behind : Forest) → Rest text n (t ++ rest) → IsPiece word t rest → is_name t ≡ true
      → nth_name text file 0 (tree_then kind.Token n (n + length t) nothing behind) ≡ Some (record { text = t; location = location file (leaf_tree n t) })
  unfolding nth_name name_of
  name_is n t rest behind r p h = let w = word_is n t rest r p h in rw w (rw w refl)

  text_is : (n : ℕ) (t rest : Text) → Rest text n (t ++ rest) → IsPiece word t rest → is_name t ≡ true
      → nth_text text 0 (tree_then kind.Token n (n + length t) nothing nothing) ≡ Some t
  text_is n t rest r p h = let w = word_is n t rest r p h in rw w (rw w refl)

  -- ---- values without others inside

  pub record Means (l : Literal) (f : Forest) : Type 0 where
    pub found : ValueKind
    pub is : head (contents text file f) ≡ Some found
    pub same : literal_of found ≡ l

  leaf_means : (n : ℕ) (t : Text) (k : ValueKind) → token_text text (leaf_tree n t) ≡ Some t → literal t ≡ Some k
      → head (contents text file (tree_then kind.Token n (n + length t) nothing nothing)) ≡ Some k
  unfolding content_step simple_content is_kind
  leaf_means n t k e h = rw e (rw h refl)

  null_means : (f : Forest) → head (contents text file (tree_then kind.NullValue 0 0 f nothing)) ≡ Some Null
  unfolding content_step simple_content is_kind
  null_means f = refl

  truth_means : (f : Forest) (b : Bool) → nth_text text 0 f ≡ Some (truth_word b) → head (contents text file (tree_then kind.BooleanValue 0 0 f nothing)) ≡ Some (Boolean b)
  unfolding content_step simple_content is_kind
  truth_means f true e = rw e refl
  truth_means f false e = rw e refl

  enum_means : (f : Forest) (n : Named) → nth_name text file 0 f ≡ Some n → head (contents text file (tree_then kind.EnumValue 0 0 f nothing)) ≡ Some (Enum n)
  unfolding content_step simple_content is_kind
  enum_means f n e = rw e refl

  -- ---- lists and objects

  list_means : (n e : ℕ) (f : Forest) (found : List Value) → values text file f ≡ found
      → head (contents text file (tree_then kind.ListValue 0 0 (tree_then kind.Token n e nothing f) nothing)) ≡ Some (ListKind found)
  unfolding content_step value_step is_kind
  list_means n e f found h = rw h refl

  object_means : (n e : ℕ) (f : Forest) (found : List (Named × Value)) → members text file f ≡ found
      → head (contents text file (tree_then kind.ObjectValue 0 0 (tree_then kind.Token n e nothing f) nothing)) ≡ Some (ObjectKind found)
  unfolding content_step member_step is_kind
  object_means n e f found h = rw h refl

  no_values : (n e : ℕ) → values text file (tree_then kind.Token n e nothing nothing) ≡ []
  unfolding value_step is_kind
  no_values n e = refl

  no_members : (n e : ℕ) → members text file (tree_then kind.Token n e nothing nothing) ≡ []
  unfolding member_step is_kind
  no_members n e = refl

  abbrev value_tree : Forest → Plain
  value_tree inner = record { kind = kind.Value; start = 0; end = 0; children = inner }

  abbrev value_at : Forest → ValueKind → Value
  value_at inner k = record { kind = k; location = location file (value_tree inner) }

  one_value : (inner behind : Forest) (k : ValueKind) → head (contents text file inner) ≡ Some k
      → values text file (tree_then kind.Value 0 0 inner behind) ≡ value_at inner k ∷ values text file behind
  unfolding value_step is_kind
  one_value inner behind k e = rw e refl

  past_spaces : (a b c d : ℕ) (f : Forest) → values text file (tree_then kind.Ignored a b nothing (tree_then kind.Ignored c d nothing f)) ≡ values text file f
  unfolding value_step is_kind
  past_spaces a b c d f = refl

  past_spaces_members : (a b c d : ℕ) (f : Forest) → members text file (tree_then kind.Ignored a b nothing (tree_then kind.Ignored c d nothing f)) ≡ members text file f
  unfolding member_step is_kind
  past_spaces_members a b c d f = refl

  abbrev pair_inner : (n e a b c d : ℕ) → Forest → Forest
  pair_inner n e a b c d inner =
      tree_then kind.Token n e nothing (tree_then kind.Token a b nothing (tree_then kind.Ignored c d nothing (tree_then kind.Value 0 0 inner nothing)))

  pair_values : (n e a b c d : ℕ) (inner : Forest) (k : ValueKind) → head (contents text file inner) ≡ Some k
      → values text file (pair_inner n e a b c d inner) ≡ value_at inner k ∷ []
  unfolding value_step is_kind
  pair_values n e a b c d inner k h = rw h refl

  one_member : (inner behind : Forest) (name : Named) (v : Value) → nth_name text file 0 inner ≡ Some name → values text file inner ≡ v ∷ []
      → members text file (tree_then kind.ObjectField 0 0 inner behind) ≡ (name, v) ∷ members text file behind
  unfolding member_step is_kind
  one_member inner behind name v e h = rw (e, h) refl

  record ItemsMean (ls : Literals) (f : Forest) : Type 0 where
    found : List Value
    is : values text file f ≡ found
    same : literals_of (map literal_in found) ≡ ls

  record PairsMean (ps : Pairs) (f : Forest) : Type 0 where
    found : List (Named × Value)
    is : members text file f ≡ found
    same : pairs_of (map seen found) ≡ ps

  item_more : (l : Literal) (ls : Literals) (inner behind : Forest) → Means l inner → ItemsMean ls behind → ItemsMean (literal_then l ls) (tree_then kind.Value 0 0 inner behind)
  item_more l ls inner behind m ms = record {
    found = value_at inner m.found ∷ ms.found;
    is = one_value inner behind m.found m.is ∙ ap (λ vs. value_at inner m.found ∷ vs) ms.is;
    same = ap (λ x. literal_then x (literals_of (map literal_in ms.found))) m.same ∙ ap (λ x. literal_then l x) ms.same;
  }

  -- the places of one token behind another
  abbrev inner_rest : (n : ℕ) (i s : Said) (rest : Text) → Rest text n ((text_of i ++ text_of s) ++ rest) → Rest text n (text_of i ++ (text_of s ++ rest))
  inner_rest n i s rest r = first_part text n (text_of i) (text_of s) rest r

  leaf_rest : (n : ℕ) (t rest : Text) → Rest text n ((t ++ []) ++ rest) → Rest text n (t ++ rest)
  leaf_rest n t rest r = subst (λ l. Rest text n (l ++ rest)) (append-nil t) r

  under_rest : (n : ℕ) (t rest : Text) → Rest text n (((t ++ []) ++ []) ++ rest) → Rest text n (t ++ rest)
  under_rest n t rest r = leaf_rest n t rest (leaf_rest n (t ++ []) rest r)

  truth_name : (b : Bool) → is_name (truth_word b) ≡ true
  truth_name true = refl
  truth_name false = refl

  pair_means : (k : Text) (l : Literal) (ps : Pairs) → is_name k ≡ true → (n : ℕ) (rest : Text) → Rest text n (text_of (pairs_said (pair_then k l ps)) ++ rest)
      → Lexes (pairs_said (pair_then k l ps)) rest
      → ((at : ℕ) (behind : Text) → Rest text at (text_of (content_said l) ++ behind) → Lexes (content_said l) behind → Means l (forest_at at (content_said l)))
      → ((at : ℕ) → Rest text at (text_of (more_pairs ps) ++ rest) → PairsMean ps (forest_at at (more_pairs ps)))
      → PairsMean (pair_then k l ps) (forest_at n (pairs_said (pair_then k l ps)))
  pair_means k l ps h n rest r x value_means more_mean =
      let value = text_of (content_said l) ++ [] in
      let own = k ++ (58 ∷ 32 ∷ value) in
      let after_pair = text_of (more_pairs ps) ++ rest in
      let a = first_part text n own (text_of (more_pairs ps)) rest r in
      let named = first_part text n k (58 ∷ 32 ∷ value) after_pair a in
      let b = second_part text n k (58 ∷ 32 ∷ value) after_pair a in
      let c = second_part text (n + length k) (58 ∷ []) (32 ∷ value) after_pair b in
      let d = second_part text (n + length k + 1) (32 ∷ []) value after_pair c in
      let at = n + length k + 1 + 1 in
      let v = value_means at after_pair (leaf_rest at (text_of (content_said l)) after_pair d) x.1.0.1.1.1.1.0 in
      let key : Named = record { text = k; location = location file (leaf_tree n k) } in
      let inner = forest_at at (content_said l) in
      let more = more_mean (n + length own) (second_part text n own (text_of (more_pairs ps)) rest r) in
      record {
        found = (key, value_at inner v.found) ∷ more.found;
        is = one_member _ _ key (value_at inner v.found) (name_is n k _ _ named x.1.0.0 h) (pair_values _ _ _ _ _ _ inner v.found v.is)
            ∙ ap (λ ms. (key, value_at inner v.found) ∷ ms) more.is;
        same = ap (λ y. pair_then k y (pairs_of (map seen more.found))) v.same ∙ ap (λ y. pair_then k l y) more.same;
      }

  mutual
    pub means : (l : Literal) → IsConstant l → (n : ℕ) (rest : Text) → Rest text n (text_of (content_said l) ++ rest) → Lexes (content_said l) rest → Means l (forest_at n (content_said l))
    means lit.null h n rest r x = record { found = Null; is = null_means _; same = literal-Null }
    means (lit.variable t) h n rest r x = absurd h
    means (lit.int t) h n rest r x = record { found = Int t; is = leaf_means n t (Int t) (token_is n t rest (leaf_rest n t rest r) x.0) (int_stands t h); same = literal-Int t }
    means (lit.float t) h n rest r x = record { found = Float t; is = leaf_means n t (Float t) (token_is n t rest (leaf_rest n t rest r) x.0) (float_stands t h); same = literal-Float t }
    means (lit.string t) h n rest r x = record {
      found = String t;
      is = leaf_means n (quoted t) (String t) (token_is n (quoted t) rest (leaf_rest n (quoted t) rest r) x.0) (string_literal t);
      same = literal-String t;
    }
    means (lit.truth b) h n rest r x = record {
      found = Boolean b;
      is = truth_means _ b (text_is n (truth_word b) rest (under_rest n (truth_word b) rest r) x.1.0.0 (truth_name b));
      same = literal-Boolean b;
    }
    means (lit.name t) h n rest r x = record {
      found = Enum (record { text = t; location = location file (leaf_tree n t) });
      is = enum_means _ _ (name_is n t rest nothing (under_rest n t rest r) x.1.0.0 h.0);
      same = literal-Enum _;
    }
    means (lit.list ls) h n rest r x =
        let inside = leaf_rest n (91 ∷ text_of (items_said ls)) rest r in
        let m = items_mean ls h (n + 1) rest (second_part text n (91 ∷ []) (text_of (items_said ls)) rest inside) x.1.0.1 in
        record { found = ListKind m.found; is = list_means _ _ _ m.found m.is; same = literal-List m.found ∙ ap lit.list m.same }
    means (lit.object ps) h n rest r x =
        let inside = leaf_rest n (123 ∷ text_of (pairs_said ps)) rest r in
        let m = pairs_mean ps h (n + 1) rest (second_part text n (123 ∷ []) (text_of (pairs_said ps)) rest inside) x.1.0.1 in
        record { found = ObjectKind m.found; is = object_means _ _ _ m.found m.is; same = literal-Object m.found ∙ ap lit.object m.same }

    items_mean : (ls : Literals) → AreConstant ls → (n : ℕ) (rest : Text) → Rest text n (text_of (items_said ls) ++ rest) → Lexes (items_said ls) rest → ItemsMean ls (forest_at n (items_said ls))
    items_mean no_literal h n rest r x = record { found = []; is = no_values _ _; same = refl }
    items_mean (literal_then l ls) h n rest r x =
        item_more l ls _ _ (means l h.0 n (text_of (more_items ls) ++ rest) (inner_rest n (content_said l) (more_items ls) rest r) x.1.0)
        (more_mean ls h.1 (n + length (text_of (content_said l))) rest (second_part text n (text_of (content_said l)) (text_of (more_items ls)) rest r) x.1.1)

    more_mean : (ls : Literals) → AreConstant ls → (n : ℕ) (rest : Text) → Rest text n (text_of (more_items ls) ++ rest) → Lexes (more_items ls) rest → ItemsMean ls (forest_at n (more_items ls))
    more_mean no_literal h n rest r x = record { found = []; is = no_values _ _; same = refl }
    more_mean (literal_then l ls) h n rest r x =
        let at = n + 1 + 1 in
        let behind = text_of (content_said l) ++ text_of (more_items ls) in
        let a = second_part text n (44 ∷ []) (32 ∷ behind) rest r in
        let b = second_part text (n + 1) (32 ∷ []) behind rest a in
        let m = item_more l ls _ _ (means l h.0 at (text_of (more_items ls) ++ rest) (inner_rest at (content_said l) (more_items ls) rest b) x.1.1.1.0)
        (more_mean ls h.1 (at + length (text_of (content_said l))) rest (second_part text at (text_of (content_said l)) (text_of (more_items ls)) rest b) x.1.1.1.1) in
        record { found = m.found; is = past_spaces _ _ _ _ (tree_then kind.Value 0 0 (forest_at at (content_said l)) (forest_at (at + length (text_of (content_said l))) (more_items ls))) ∙ m.is; same = m.same }

    pairs_mean : (ps : Pairs) → ArePairs ps → (n : ℕ) (rest : Text) → Rest text n (text_of (pairs_said ps) ++ rest) → Lexes (pairs_said ps) rest → PairsMean ps (forest_at n (pairs_said ps))
    pairs_mean no_pair h n rest r x = record { found = []; is = no_members _ _; same = refl }
    pairs_mean (pair_then k l ps) h n rest r x =
        pair_means k l ps h.0 n rest r x (λ at behind q y. means l h.1.0 at behind q y) (λ at q. more_pairs_mean ps h.1.1 at rest q x.1.1)

    more_pairs_mean : (ps : Pairs) → ArePairs ps → (n : ℕ) (rest : Text) → Rest text n (text_of (more_pairs ps) ++ rest) → Lexes (more_pairs ps) rest → PairsMean ps (forest_at n (more_pairs ps))
    more_pairs_mean no_pair h n rest r x = record { found = []; is = no_members _ _; same = refl }
    more_pairs_mean (pair_then k l ps) h n rest r x =
        let all = text_of (pairs_said (pair_then k l ps)) in
        let a = second_part text n (44 ∷ []) (32 ∷ all) rest r in
        let b = second_part text (n + 1) (32 ∷ []) all rest a in
        let m = pair_means k l ps h.0 (n + 1 + 1) rest b x.1.1 (λ at behind q y. means l h.1.0 at behind q y) (λ at q. more_pairs_mean ps h.1.1 at rest q x.1.1.1.1) in
        record { found = m.found; is = past_spaces_members _ _ _ _ (forest_at (n + 1 + 1) (pairs_said (pair_then k l ps))) ∙ m.is; same = m.same }
