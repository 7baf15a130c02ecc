-- Which word a number is, and which value it stands for.
use Rattle.std.proofs.Common.{◌≡◌, ℕ, zero, suc, ◌+◌, ◌<◌, Bool, true, false, [], ◌∷◌, ◌++◌, length, Some, refl, sym, ap, ◌∙◌, subst, inl, inr, ◌⊎◌, arith}
use Rattle.std.specs.Prelude.{◌==◌, ◌||◌, slice_index, if◌then◌else◌}
use Rattle.std.specs.List.{prefix_len, list_any}
use Rattle.std.proofs.lemmas.Bool.{eqb-true}
use Rattle.std.proofs.lemmas.Bool.Decides.{nat_tests}
use Rattle.gql_lexer.specs.Class.{is_digit, is_blank, class_of}
use Rattle.gql_lexer.specs.Lex.{sign_end, whole_end, exponent_start, is_exponent}
use Rattle.gql_lexer.specs.Lexical.{IsToken, fraction_of, number_end}
use Rattle.gql_lexer.specs.declared.token.TokenKind.TheVariants.{IntValue, FloatValue}
use Rattle.gql_grammar.specs.declared.word.Word.TheVariants.{IntLiteral, FloatLiteral}
use Rattle.gql_cst.specs.Words.{has_byte, word_of}
use Rattle.gql_ast_base.specs.Literals.{has_part}
use Rattle.gql_ast_base.specs.Values.{literal}
use Rattle.gql_ast_base.specs.declared.value.ValueKind.TheVariants.{Int, Float}
use Rattle.gql_print_laws.specs.bridge.Said.{Text}
use Rattle.gql_print_laws.proofs.Numbers.{at_most, slice_in, digits, first_of_number, number_low, number_blank, number_quote, whole_at, same_eq, whole_is, fraction_is, exponent_is, number_some}

-- ---- its bytes

plain_digits : (p : ℕ → Bool) → ((b : ℕ) → is_digit b ≡ true → p b ≡ false) → (xs : Text) → prefix_len is_digit xs ≡ length xs → list_any p xs ≡ false
plain_digits p d [] h = refl
plain_digits p d (x ∷ xs) h = by_test (is_digit x) refl h (λ k. plain_digits p d xs k) where
  by_test : (b : Bool) → is_digit x ≡ b → (if b then 1 + prefix_len is_digit xs else 0) ≡ suc (length xs) → (prefix_len is_digit xs ≡ length xs → list_any p xs ≡ false) → (p x || list_any p xs) ≡ false
  by_test true e k later = rw (d x e) (later (omega (arith, k)))
  by_test false e k later = absurd (omega (arith, k))

plain_from : (p : ℕ → Bool) → ((b : ℕ) → is_digit b ≡ true → p b ≡ false) → (u : Text) → whole_at u 0 ≡ length u → list_any p u ≡ false
unfolding whole_at
plain_from p d [] h = refl
plain_from p d (x ∷ u) h = by_test (x == 0x30) refl h where
  one : (v : Text) → 1 ≡ suc (length v) → v ≡ []
  one [] k = refl
  one (y ∷ v) k = absurd (omega (arith, k))

  by_test : (b : Bool) → (x == 0x30) ≡ b → (if b then 0 + 1 else 0 + prefix_len is_digit (x ∷ u)) ≡ suc (length u) → (p x || list_any p u) ≡ false
  by_test true e k =
      let zero : x ≡ 0x30 = eqb-true x 0x30 e in
      let own : p x ≡ false = d x (ap is_digit zero) in
      rw own (ap (λ v. list_any p v) (one u (omega (arith, k))))
  by_test false e k = plain_digits p d (x ∷ u) (omega (arith, k))

plain_whole : (p : ℕ → Bool) → p 0x2D ≡ false → ((b : ℕ) → is_digit b ≡ true → p b ≡ false) → (t : Text) → whole_at t (sign_end t) ≡ length t → list_any p t ≡ false
unfolding whole_at
plain_whole p m d [] h = refl
plain_whole p m d (x ∷ u) h = by_sign (x == 0x2D) refl h where
  behind_sign : (b : Bool) → (if b then 1 + 1 else 1 + prefix_len is_digit u) ≡ suc (length u) → (if b then 0 + 1 else 0 + prefix_len is_digit u) ≡ length u
  behind_sign true k = omega (arith, k)
  behind_sign false k = omega (arith, k)

  by_sign : (b : Bool) → (x == 0x2D) ≡ b → whole_at (x ∷ u) (if b then 1 else 0) ≡ suc (length u) → (p x || list_any p u) ≡ false
  by_sign true e k =
      let minus : x ≡ 0x2D = eqb-true x 0x2D e in
      let own : p x ≡ false = ap p minus ∙ m in
      rw own (plain_from p d u (behind_sign (slice_index u 0 == 0x30) k))
  by_sign false e k = plain_from p d (x ∷ u) k

has_at : (p : ℕ → Bool) → p 0 ≡ false → (i : ℕ) (t : Text) → p (slice_index t i) ≡ true → list_any p t ≡ true
has_at p z i [] h = let wrong : true ≡ false = sym h ∙ z in absurd (cc)
has_at p z zero (x ∷ t) h = rw h refl
has_at p z (suc i) (x ∷ t) h = or_right (p x) (list_any p t) (has_at p z i t h) where
  or_right : (a b : Bool) → b ≡ true → (a || b) ≡ true
  or_right true b k = refl
  or_right false b k = k

-- ---- what it is as a word and as a value

int_free : (p : ℕ → Bool) → p 0x2D ≡ false → ((b : ℕ) → is_digit b ≡ true → p b ≡ false) → (t : Text) → IsToken IntValue t (length t) → list_any p t ≡ false
int_free p m d t n = plain_whole p m d t (sym (whole_is t) ∙ sym n.1)

pub int_word : (t : Text) → IsToken IntValue t (length t) → word_of t ≡ IntLiteral
int_word t n =
    let first = first_of_number (slice_index t 0) n.0.begins in
    let quote = number_quote (slice_index t 0) first.0 in
    let dot : has_byte 0x2E t ≡ false = int_free (λ b. b == 0x2E) refl (λ b h. grind (arith, nat_tests, h)) t n in
    let small : has_byte 0x65 t ≡ false = int_free (λ b. b == 0x65) refl (λ b h. grind (arith, nat_tests, h)) t n in
    let large : has_byte 0x45 t ≡ false = int_free (λ b. b == 0x45) refl (λ b h. grind (arith, nat_tests, h)) t n in
    rw (first.1, quote, first.0, dot, small, large) refl

pub int_stands : (t : Text) → IsToken IntValue t (length t) → literal t ≡ Some (Int t)
unfolding literal
int_stands t n =
    let first = first_of_number (slice_index t 0) n.0.begins in
    let quote = number_quote (slice_index t 0) first.0 in
    let part : list_any has_part t ≡ false = int_free has_part refl (λ b h. grind (arith, nat_tests, h)) t n in
    rw (quote, first.0, part) refl

-- a fraction or an exponent begins where the whole part ends
float_has : (t : Text) → IsToken FloatValue t (length t) → has_part (slice_index t (whole_end t)) ≡ true
float_has t n = by_dot (slice_index t (whole_end t) == 0x2E) refl where
  by_exponent : (slice_index t (whole_end t) == 0x2E) ≡ false → (b : Bool) → is_exponent (slice_index t (whole_end t)) ≡ b → has_part (slice_index t (whole_end t)) ≡ true
  by_exponent d true h = rw d h
  by_exponent d false h =
      let fraction : fraction_of t ≡ whole_end t = fraction_is t (whole_end t) ∙ ap (λ b. if b then digits t (whole_end t + 1) else whole_end t) d in
      let none : is_exponent (slice_index t (fraction_of t)) ≡ false = ap (λ i. is_exponent (slice_index t i)) fraction ∙ h in
      let end : number_end t ≡ fraction_of t = exponent_is t (fraction_of t) ∙ ap (λ b. if b then digits t (exponent_start t (fraction_of t)) else fraction_of t) none in
      let same : (length t == whole_end t) ≡ true = same_eq (length t) (whole_end t) (n.0.ends ∙ end ∙ fraction) in
      let wrong : true ≡ false = sym same ∙ n.1 in
      absurd (cc)

  by_dot : (b : Bool) → (slice_index t (whole_end t) == 0x2E) ≡ b → has_part (slice_index t (whole_end t)) ≡ true
  by_dot true h = rw h refl
  by_dot false h = by_exponent h (is_exponent (slice_index t (whole_end t))) refl

either_of : (a b c : Bool) → (a || b || c) ≡ true → (a ≡ true) ⊎ ((b ≡ true) ⊎ (c ≡ true))
either_of true b c h = inl refl
either_of false true c h = inr (inl refl)
either_of false false c h = inr (inr h)

some_of : (a b c : Bool) → (a ≡ true) ⊎ ((b ≡ true) ⊎ (c ≡ true)) → (a || b || c) ≡ true
some_of true b c h = refl
some_of false true c h = refl
some_of false false c (inl h) = absurd (cc)
some_of false false c (inr (inl h)) = absurd (cc)
some_of false false c (inr (inr h)) = h

pub float_word : (t : Text) → IsToken FloatValue t (length t) → word_of t ≡ FloatLiteral
float_word t n =
    let first = first_of_number (slice_index t 0) n.0.begins in
    let quote = number_quote (slice_index t 0) first.0 in
    let byte = slice_index t (whole_end t) in
    let found : (has_byte 0x2E t || has_byte 0x65 t || has_byte 0x45 t) ≡ true =
    some_of (has_byte 0x2E t) (has_byte 0x65 t) (has_byte 0x45 t) (each (either_of (byte == 0x2E) (byte == 0x65) (byte == 0x45) (float_has t n))) in
    rw (first.1, quote, first.0, found) refl where
      each : ((slice_index t (whole_end t) == 0x2E) ≡ true) ⊎ (((slice_index t (whole_end t) == 0x65) ≡ true) ⊎ ((slice_index t (whole_end t) == 0x45) ≡ true))
          → (has_byte 0x2E t ≡ true) ⊎ ((has_byte 0x65 t ≡ true) ⊎ (has_byte 0x45 t ≡ true))
      each (inl h) = inl (has_at (λ b. b == 0x2E) refl (whole_end t) t h)
      each (inr (inl h)) = inr (inl (has_at (λ b. b == 0x65) refl (whole_end t) t h))
      each (inr (inr h)) = inr (inr (has_at (λ b. b == 0x45) refl (whole_end t) t h))

pub float_stands : (t : Text) → IsToken FloatValue t (length t) → literal t ≡ Some (Float t)
unfolding literal
float_stands t n =
    let first = first_of_number (slice_index t 0) n.0.begins in
    let quote = number_quote (slice_index t 0) first.0 in
    let part : list_any has_part t ≡ true = has_at has_part refl (whole_end t) t (float_has t n) in
    rw (quote, first.0, part) refl

-- ---- what is used of it

pub record NumberText (t : Text) : Type 0 where
  pub some : 0 < length t
  pub low : (rest : Text) → slice_index (t ++ rest) 0 < 128
  pub blank : (rest : Text) → is_blank (slice_index (t ++ rest) 0) ≡ false

pub number_text : (t : Text) → class_of (slice_index t 0) ≡ class_of 48 → NumberText t
number_text t h =
    let some = number_some t h in
    let first = first_of_number (slice_index t 0) h in
    record {
      some = some;
      low = λ rest. subst (λ b. at_most (suc b) 128) (sym (slice_in 0 t rest some)) (number_low (slice_index t 0) first.0);
      blank = λ rest. ap is_blank (slice_in 0 t rest some) ∙ number_blank (slice_index t 0) first.0;
    }
