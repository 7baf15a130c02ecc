-- What a token of a text stands for is constant.
use Rattle.std.proofs.Common.{◌≡◌, ℕ, zero, suc, ◌-◌, ◌<◌, ◌≤◌, Bool, true, false, List, [], ◌∷◌, ◌++◌, length, take, drop, Some, None, refl, sym, ap, ◌∙◌, subst, inl, inr, arith, length-drop}
use Rattle.std.specs.Prelude.{◌==◌, ◌||◌, ◌&&◌, nat_le, slice_index, slice_range, if◌then◌else◌}
use Rattle.std.proofs.lemmas.Bool.Decides.{nat_tests}
use Rattle.gql_grammar.specs.declared.syntax_kind.SyntaxKind.TheVariants as kind
use Rattle.gql_lexer.specs.Class.{is_digit, is_name_start, class_of}
use Rattle.gql_lexer.specs.Lexical.{IsToken}
use Rattle.gql_lexer.specs.declared.token.TokenKind.{TokenKind}
use Rattle.gql_lexer.specs.declared.token.TokenKind.TheVariants as token
use Rattle.gql_cst.specs.Forest.{Forest}
use Rattle.gql_cst.specs.Leaves.{word, part_of_token, Leaf, IsLeaf, Tiles}
use Rattle.gql_ast_base.specs.Kinds.{is_kind}
use Rattle.gql_ast_base.specs.Literals.{opens_string, string_text, opens_number}
use Rattle.gql_ast_base.specs.Parts.{piece, is_boundary, token_text}
use Rattle.gql_ast_base.specs.Values.{literal}
use Rattle.gql_ast_base.specs.declared.value.ValueKind.{ValueKind, Int, Float, String}
use Rattle.gql_ast_laws.proofs.Blind.{tree}
use Rattle.gql_print_laws.specs.Literal.{literal_of}
use Rattle.gql_print_laws.specs.bridge.Said.{Text}
use Rattle.gql_print_laws.specs.Written.{IsConstant}
use Rattle.gql_print_laws.proofs.Meaning.{literal-Int, literal-Float, literal-String}
use Rattle.gql_print_laws.proofs.NumberWords.{int_stands, float_stands}
use Rattle.gql_print_laws.proofs.NumbersCut.{int_cut, float_cut}

abbrev pub IsConstantKind : ValueKind → Type 0
IsConstantKind found = IsConstant (literal_of found)

some_same : {X : Type 0} (x y : X) → Some x ≡ Some y → x ≡ y
some_same x y h = cc

-- a byte that a number begins with is of the class of `0`
number_class : (b : ℕ) → (is_digit b || b == 0x2D) ≡ true → class_of b ≡ class_of 48
number_class b h = let n = no_name b h in rw (n, h) refl where
  no_name : (b : ℕ) → (is_digit b || b == 0x2D) ≡ true → is_name_start b ≡ false
  no_name b h = grind (arith, nat_tests, h)

first_of : (at : Text) (n : ℕ) → 0 < n → slice_index (take n at) 0 ≡ slice_index at 0
first_of at zero h = absurd (omega arith)
first_of [] (suc n) h = refl
first_of (x ∷ xs) (suc n) h = refl

take_long : (n : ℕ) (at : Text) → n ≤ length at → length (take n at) ≡ n
take_long zero at h = refl
take_long (suc n) [] h = absurd (omega arith)
take_long (suc n) (x ∷ at) h = ap suc (take_long n at (omega arith))

take_drop : (n : ℕ) (at : Text) → take n at ++ drop n at ≡ at
take_drop zero at = refl
take_drop (suc n) [] = refl
take_drop (suc n) (x ∷ at) = ap (λ l. x ∷ l) (take_drop n at)

-- a token of the class of numbers is a number by itself
record IsNumeral (t : Text) (k : ValueKind) : Type 0 where
  is : literal t ≡ Some k
  constant : IsConstantKind k

numeral : (kind : TokenKind) (t rest : Text) → part_of_token kind ≡ word → IsToken kind (t ++ rest) (length t) → class_of (slice_index (t ++ rest) 0) ≡ class_of 48
    → (k : ValueKind) × IsNumeral t k
numeral token.IntValue t rest p n c = let alone = int_cut t rest n in (Int t, record { is = int_stands t alone; constant = subst IsConstant (sym (literal-Int t)) alone })
numeral token.FloatValue t rest p n c = let alone = float_cut t rest n in (Float t, record { is = float_stands t alone; constant = subst IsConstant (sym (literal-Float t)) alone })
numeral token.Name t rest p n c = absurd (let wrong = sym c ∙ n.0 in cc)
numeral token.Punctuator t rest p (inl n) c = absurd (let wrong = sym c ∙ n.0 in cc)
numeral token.Punctuator t rest p (inr n) c = absurd (let wrong = sym c ∙ n.0 in cc)
numeral token.StringValue t rest p (inl n) c = absurd (let wrong = sym c ∙ n.0.0 in cc)
numeral token.StringValue t rest p (inr n) c = absurd (let wrong = sym c ∙ n.0.0 in cc)
numeral token.Ignored t rest p n c = absurd (cc)

string_is : (t : Text) → opens_string t ≡ true → literal t ≡ Some (String (string_text t))
unfolding literal
string_is t h = rw h refl

nothing_is : (t : Text) → opens_string t ≡ false → opens_number t ≡ false → literal t ≡ None
unfolding literal
nothing_is t h g = rw (h, g) refl

-- what the text of a token stands for
token_constant : (kind : TokenKind) (t rest : Text) → part_of_token kind ≡ word → IsToken kind (t ++ rest) (length t) → slice_index (t ++ rest) 0 ≡ slice_index t 0
    → (k : ValueKind) → literal t ≡ Some k → IsConstantKind k
token_constant kind t rest p n same k h = by_string (opens_string t) refl where
  by_number : opens_string t ≡ false → (b : Bool) → opens_number t ≡ b → IsConstantKind k
  by_number s true e =
      let m = numeral kind t rest p n (ap class_of same ∙ number_class (slice_index t 0) e) in
      subst IsConstantKind (some_same m.0 k (sym m.1.is ∙ h)) m.1.constant
  by_number s false e = absurd (let wrong = sym (nothing_is t s e) ∙ h in cc)

  by_string : (b : Bool) → opens_string t ≡ b → IsConstantKind k
  by_string true e = subst IsConstantKind (some_same (String (string_text t)) k (sym (string_is t e) ∙ h)) (subst IsConstant (sym (literal-String (string_text t))) tt)
  by_string false e = by_number e (opens_number t) refl

module _ (text : Text) where
  -- what the leaf stands for is constant, if it is a token
  abbrev pub IsConstantLeaf : Leaf → Type 0
  IsConstantLeaf leaf = leaf.part ≡ word → (children : Forest) (t : Text) → token_text text (tree kind.Token leaf.start leaf.end children) ≡ Some t
      → (k : ValueKind) → literal t ≡ Some k → IsConstantKind k

  abbrev pub AreConstantLeaves : List Leaf → Type 0
  AreConstantLeaves [] = Unit {0}
  AreConstantLeaves (leaf ∷ ls) = IsConstantLeaf leaf × AreConstantLeaves ls

  piece_is : (b c : Bool) (whole t : Text) → (if b && c then Some whole else None) ≡ Some t → whole ≡ t
  piece_is true true whole t h = some_same whole t h
  piece_is true false whole t h = absurd (cc)
  piece_is false c whole t h = absurd (cc)

  text_is : (start end : ℕ) (children : Forest) (t : Text) → token_text text (tree kind.Token start end children) ≡ Some t → slice_range text start end ≡ t
  unfolding token_text piece is_kind
  text_is start end children t h = piece_is (nat_le start end && is_boundary text start) (is_boundary text end) (slice_range text start end) t h

  leaf_constant : (place : ℕ) (leaf : Leaf) → IsLeaf text place leaf → IsConstantLeaf leaf
  leaf_constant place leaf l p children t e k h =
      let at = drop leaf.start text in
      let n = leaf.end - leaf.start in
      let further : leaf.start < leaf.end = l.further in
      let within : leaf.end ≤ length text = l.ends_character.0 in
      let long : length at ≡ length text - leaf.start = length-drop leaf.start text in
      let some : 0 < n = omega arith in
      let same : take n at ≡ t = text_is leaf.start leaf.end children t e in
      let size : length (take n at) ≡ n = take_long n at (omega (arith, long)) in
      let whole : t ++ drop n at ≡ at = ap (λ x. x ++ drop n at) (sym same) ∙ take_drop n at in
      let length_is : n ≡ length t = sym size ∙ ap length same in
      let found : IsToken l.kind (t ++ drop n at) (length t) = subst (λ m. IsToken l.kind (t ++ drop n at) m) length_is (subst (λ x. IsToken l.kind x n) (sym whole) l.token) in
      let first : slice_index (t ++ drop n at) 0 ≡ slice_index t 0 = ap (λ x. slice_index x 0) whole ∙ sym (first_of at n some) ∙ ap (λ x. slice_index x 0) same in
      token_constant l.kind t (drop n at) (l.part ∙ p) found first k h

  pub tiled_constant : (from : ℕ) (ls : List Leaf) (to : ℕ) → Tiles text from ls to → AreConstantLeaves ls
  tiled_constant from [] to h = tt
  tiled_constant from (leaf ∷ ls) to h = (leaf_constant from leaf h.0, tiled_constant leaf.end ls to h.1)

  pub front_leaves : (xs ys : List Leaf) → AreConstantLeaves (xs ++ ys) → AreConstantLeaves xs
  front_leaves [] ys h = tt
  front_leaves (x ∷ xs) ys h = (h.0, front_leaves xs ys h.1)

  pub back_leaves : (xs ys : List Leaf) → AreConstantLeaves (xs ++ ys) → AreConstantLeaves ys
  back_leaves [] ys h = h
  back_leaves (x ∷ xs) ys h = back_leaves xs ys h.1
