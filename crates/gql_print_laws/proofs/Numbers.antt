-- A number that is one token by itself is one wherever something ends it.
use Rattle.std.proofs.Common.{◌≡◌, ℕ, zero, suc, ◌+◌, ◌<◌, ◌≤◌, Bool, true, false, [], ◌∷◌, ◌++◌, length, drop, refl, sym, ap, ◌∙◌, subst, inl, inr, ◌⊎◌, arith}
use Rattle.std.specs.Prelude.{◌==◌, ◌||◌, ◌&&◌, not, nat_le, slice_index, if◌then◌else◌}
use Rattle.std.specs.List.{prefix_len}
use Rattle.std.proofs.lemmas.Bool.{eqb-true}
use Rattle.std.proofs.lemmas.Bool.Decides.{nat_tests}
use Rattle.gql_lexer.specs.Class.{is_digit, is_name_start, is_name_continue, is_blank, is_punctuator, class_of}
use Rattle.gql_lexer.specs.Lex.{sign_end, whole_end, fraction_end, exponent_start, exponent_end, is_exponent, is_sign, goes_on}
use Rattle.gql_lexer.specs.Lexical.{IsToken, IsNumber, fraction_of, number_end, lacks_whole, lacks_exponent}
use Rattle.gql_lexer.specs.declared.token.TokenKind.TheVariants.{IntValue, FloatValue}
use Rattle.gql_print_laws.specs.bridge.Said.{Text}
use Rattle.gql_print_laws.specs.bridge.Written.{Ends}

-- ---- lists of bytes

abbrev pub at_most : ℕ → ℕ → Type 0
at_most n m = n ≤ m

pub less_or : (n m : ℕ) → (n < m) ⊎ (m ≤ n)
less_or n m = by_test (nat_le m n) refl where
  by_test : (t : Bool) → nat_le m n ≡ t → (n < m) ⊎ (m ≤ n)
  by_test true e = inr (grind (arith, nat_tests, e))
  by_test false e = inl (grind (arith, nat_tests, e))

pub slice_in : (i : ℕ) (t rest : Text) → i < length t → slice_index (t ++ rest) i ≡ slice_index t i
slice_in i [] rest h = absurd (omega arith)
slice_in zero (x ∷ t) rest h = refl
slice_in (suc i) (x ∷ t) rest h = slice_in i t rest (omega arith)

slice_out : (t rest : Text) → slice_index (t ++ rest) (length t) ≡ slice_index rest 0
slice_out [] rest = refl
slice_out (x ∷ t) rest = slice_out t rest

pub slice_past : (i : ℕ) (t : Text) → length t ≤ i → slice_index t i ≡ 0
slice_past i [] h = refl
slice_past zero (x ∷ t) h = absurd (omega arith)
slice_past (suc i) (x ∷ t) h = slice_past i t (omega arith)

pub drop_front : (n : ℕ) (t rest : Text) → n ≤ length t → drop n (t ++ rest) ≡ drop n t ++ rest
drop_front zero t rest h = refl
drop_front (suc n) [] rest h = absurd (omega arith)
drop_front (suc n) (x ∷ t) rest h = drop_front n t rest (omega arith)

drop_past : (n : ℕ) (t : Text) → length t ≤ n → drop n t ≡ []
drop_past zero [] h = refl
drop_past zero (x ∷ t) h = absurd (omega arith)
drop_past (suc n) [] h = refl
drop_past (suc n) (x ∷ t) h = drop_past n t (omega arith)

pub drop_long : (n : ℕ) (t : Text) → n ≤ length t → n + length (drop n t) ≡ length t
drop_long zero t h = omega arith
drop_long (suc n) [] h = absurd (omega arith)
drop_long (suc n) (x ∷ t) h = let e = drop_long n t (omega arith) in omega (arith, e)

prefix_same : (p : ℕ → Bool) (xs rest : Text) → p (slice_index rest 0) ≡ false → prefix_len p (xs ++ rest) ≡ prefix_len p xs
prefix_same p [] [] h = refl
prefix_same p [] (y ∷ ys) h = let e : p y ≡ false = h in rw e refl
prefix_same p (x ∷ xs) rest h = ap (λ n. if p x then 1 + n else 0) (prefix_same p xs rest h)

prefix_le : (p : ℕ → Bool) (xs : Text) → prefix_len p xs ≤ length xs
prefix_le p [] = omega arith
prefix_le p (x ∷ xs) = by_test (p x) (prefix_le p xs) where
  by_test : (b : Bool) → at_most (prefix_len p xs) (length xs) → at_most (if b then 1 + prefix_len p xs else 0) (suc (length xs))
  by_test true e = omega (arith, e)
  by_test false e = omega arith

-- the first place from one on that holds no digit
abbrev pub digits : Text → ℕ → ℕ
digits t from = from + prefix_len is_digit (drop from t)

past_same : (from : ℕ) (t rest : Text) → from ≤ length t → is_digit (slice_index rest 0) ≡ false → digits (t ++ rest) from ≡ digits t from
past_same from t rest h d =
    ap (λ l. from + prefix_len is_digit l) (drop_front from t rest h) ∙ ap (λ n. from + n) (prefix_same is_digit (drop from t) rest d)

past_le : (from : ℕ) (t : Text) → from ≤ length t → digits t from ≤ length t
past_le from t h = let a = prefix_le is_digit (drop from t) in let b = drop_long from t h in omega (arith, a, b)

past_out : (from : ℕ) (t : Text) → length t ≤ from → digits t from ≡ from
past_out from t h = ap (λ l. from + prefix_len is_digit l) (drop_past from t h) ∙ (omega arith)

-- ---- what ends a number

no_digit : (b : ℕ) → is_name_continue b ≡ false → is_digit b ≡ false
no_digit b h = grind (arith, nat_tests, h)

no_exponent : (b : ℕ) → is_name_continue b ≡ false → is_exponent b ≡ false
no_exponent b h = grind (arith, nat_tests, h)

no_more : (b : ℕ) → is_name_continue b ≡ false → (b ≡ 0x2E → ⊥) → goes_on b ≡ false
no_more b h dot = grind (arith, nat_tests, h, dot)

not_dot : (b : ℕ) → (b ≡ 0x2E → ⊥) → (b == 0x2E) ≡ false
not_dot b other = by_test (b == 0x2E) refl where
  by_test : (t : Bool) → (b == 0x2E) ≡ t → (b == 0x2E) ≡ false
  by_test true e = absurd (other (eqb-true b 0x2E e))
  by_test false e = e

-- the classes have no names here: each is that of some byte
apart : {C : Type 0} (t : Bool) (n x y : C) → (x ≡ n → ⊥) → (y ≡ n → ⊥) → (if t then x else y) ≡ n → ⊥
apart true n x y h k = h
apart false n x y h k = k

name_apart : class_of 97 ≡ class_of 48 → ⊥
name_apart h = cc

others : (b : ℕ) → is_name_start b ≡ false → (is_digit b || b == 0x2D) ≡ false → class_of b ≡ class_of 48 → ⊥
others b n d =
    rw (n, d)
    (apart (is_blank b) (class_of 48) (class_of 32) _ (λ h. cc) (apart (is_punctuator b) (class_of 48) (class_of 33) _ (λ h. cc)
    (apart (b == 0x2E) (class_of 48) (class_of 0x2E) _ (λ h. cc) (apart (b == 0x22) (class_of 48) (class_of 0x22) _ (λ h. cc)
    (apart (b == 0x23) (class_of 48) (class_of 0x23) _ (λ h. cc) (apart (b == 0x2C) (class_of 48) (class_of 0x2C) _ (λ h. cc)
    (apart (b == 0xEF) (class_of 48) (class_of 0xEF) (class_of 0) (λ h. cc) (λ h. cc))))))))

-- a number begins with a digit or `-`, and not as a name
pub first_of_number : (b : ℕ) → class_of b ≡ class_of 48 → ((is_digit b || b == 0x2D) ≡ true) × (is_name_start b ≡ false)
first_of_number b h = by_name (is_name_start b) refl where
  by_digit : is_name_start b ≡ false → (t : Bool) → (is_digit b || b == 0x2D) ≡ t → ((is_digit b || b == 0x2D) ≡ true) × (is_name_start b ≡ false)
  by_digit n true e = (e, n)
  by_digit n false e = absurd (others b n e h)

  by_name : (t : Bool) → is_name_start b ≡ t → ((is_digit b || b == 0x2D) ≡ true) × (is_name_start b ≡ false)
  by_name true e = let name : class_of b ≡ class_of 97 = rw e refl in absurd (name_apart (sym name ∙ h))
  by_name false e = by_digit e (is_digit b || b == 0x2D) refl

pub number_low : (b : ℕ) → (is_digit b || b == 0x2D) ≡ true → b < 128
number_low b h = grind (arith, nat_tests, h)

pub number_blank : (b : ℕ) → (is_digit b || b == 0x2D) ≡ true → is_blank b ≡ false
number_blank b h = grind (arith, nat_tests, h)

pub number_quote : (b : ℕ) → (is_digit b || b == 0x2D) ≡ true → (b == 0x22) ≡ false
number_quote b h = grind (arith, nat_tests, h)

-- ---- the parts of a number are the same with something behind it

unfoldable pub whole_at : Text → ℕ → ℕ
whole_at t s = if slice_index t s == 0x30 then s + 1 else digits t s

whole_other : (t : Text) (s : ℕ) → (slice_index t s == 0x30) ≡ false → whole_at t s ≡ digits t s
unfolding whole_at
whole_other t s h = rw h refl

pub same_eq : (n m : ℕ) → n ≡ m → (n == m) ≡ true
same_eq n m h = grind (arith, nat_tests, h)

pub whole_is : (t : Text) → whole_end t ≡ whole_at t (sign_end t)
unfolding whole_end whole_at
whole_is t = refl

pub fraction_is : (t : Text) (w : ℕ) → fraction_end t w ≡ (if slice_index t w == 0x2E then digits t (w + 1) else w)
unfolding fraction_end
fraction_is t w = refl

pub exponent_is : (t : Text) (f : ℕ) → exponent_end t f ≡ (if is_exponent (slice_index t f) then digits t (exponent_start t f) else f)
unfolding exponent_end
exponent_is t f = refl

pub start_is : (t : Text) (f : ℕ) → exponent_start t f ≡ (if is_sign (slice_index t (f + 1)) then f + 2 else f + 1)
unfolding exponent_start
start_is t f = refl

module _ (t rest : Text) (e : Ends rest) (some : 0 < length t) (whole : lacks_whole t ≡ false) (exponent : lacks_exponent t ≡ false) where
  behind : is_digit (slice_index rest 0) ≡ false
  behind = no_digit (slice_index rest 0) e.stops

  sign_in : sign_end t < length t
  sign_in = by_case (less_or (sign_end t) (length t)) where
    by_case : (sign_end t < length t) ⊎ (length t ≤ sign_end t) → sign_end t < length t
    by_case (inl h) = h
    by_case (inr h) =
        let byte : slice_index t (sign_end t) ≡ 0 = slice_past (sign_end t) t h in
        let at : whole_at t (sign_end t) ≡ digits t (sign_end t) = whole_other t (sign_end t) (ap (λ b. b == 0x30) byte) in
        let same : whole_end t ≡ sign_end t = whole_is t ∙ at ∙ past_out (sign_end t) t h in
        let wrong : true ≡ false = sym (same_eq (whole_end t) (sign_end t) same) ∙ whole in
        absurd (cc)

  begins : slice_index (t ++ rest) 0 ≡ slice_index t 0
  begins = slice_in 0 t rest some

  sign_same : sign_end (t ++ rest) ≡ sign_end t
  sign_same = ap (λ b. if b == 0x2D then 1 else 0) begins

  whole_at_same : (s : ℕ) → s < length t → whole_at (t ++ rest) s ≡ whole_at t s
  unfolding whole_at
  whole_at_same s h =
      ap (λ b. if b == 0x30 then s + 1 else digits (t ++ rest) s) (slice_in s t rest h)
      ∙ ap (λ d. if slice_index t s == 0x30 then s + 1 else d) (past_same s t rest (omega arith) behind)

  whole_same : whole_end (t ++ rest) ≡ whole_end t
  whole_same = whole_is (t ++ rest) ∙ ap (λ s. whole_at (t ++ rest) s) sign_same ∙ whole_at_same (sign_end t) sign_in ∙ sym (whole_is t)

  whole_at_le : (s : ℕ) → s < length t → whole_at t s ≤ length t
  unfolding whole_at
  whole_at_le s h = by_test (slice_index t s == 0x30) where
    by_test : (b : Bool) → at_most (if b then s + 1 else digits t s) (length t)
    by_test true = omega arith
    by_test false = past_le s t (omega arith)

  whole_le : whole_end t ≤ length t
  whole_le = subst (λ n. at_most n (length t)) (sym (whole_is t)) (whole_at_le (sign_end t) sign_in)

  dot_out : (w : ℕ) → length t ≤ w → (slice_index t w == 0x2E) ≡ false
  dot_out w h = ap (λ b. b == 0x2E) (slice_past w t h)

  dot_behind : (w : ℕ) → w ≡ length t → (slice_index (t ++ rest) w == 0x2E) ≡ false
  dot_behind w h = ap (λ i. slice_index (t ++ rest) i == 0x2E) h ∙ ap (λ b. b == 0x2E) (slice_out t rest) ∙ not_dot (slice_index rest 0) e.no_dot

  no_fraction : (u : Text) (w : ℕ) → (slice_index u w == 0x2E) ≡ false → fraction_end u w ≡ w
  no_fraction u w h = fraction_is u w ∙ ap (λ b. if b then digits u (w + 1) else w) h

  fraction_step : (w : ℕ) → w ≤ length t → fraction_end (t ++ rest) w ≡ fraction_end t w
  fraction_step w le = by_case (less_or w (length t)) where
    by_case : (w < length t) ⊎ (length t ≤ w) → fraction_end (t ++ rest) w ≡ fraction_end t w
    by_case (inl h) =
        fraction_is (t ++ rest) w ∙ ap (λ b. if b == 0x2E then digits (t ++ rest) (w + 1) else w) (slice_in w t rest h)
        ∙ ap (λ d. if slice_index t w == 0x2E then d else w) (past_same (w + 1) t rest (omega arith) behind) ∙ sym (fraction_is t w)
    by_case (inr h) = no_fraction (t ++ rest) w (dot_behind w (omega arith)) ∙ sym (no_fraction t w (dot_out w h))

  fraction_le : (w : ℕ) → w ≤ length t → fraction_end t w ≤ length t
  fraction_le w le = by_case (less_or w (length t)) where
    by_test : w < length t → (b : Bool) → at_most (if b then digits t (w + 1) else w) (length t)
    by_test h true = past_le (w + 1) t (omega arith)
    by_test h false = omega arith

    by_case : (w < length t) ⊎ (length t ≤ w) → fraction_end t w ≤ length t
    by_case (inl h) = subst (λ n. at_most n (length t)) (sym (fraction_is t w)) (by_test h (slice_index t w == 0x2E))
    by_case (inr h) = subst (λ n. at_most n (length t)) (sym (no_fraction t w (dot_out w h))) le

  fraction_same : fraction_of (t ++ rest) ≡ fraction_of t
  fraction_same = ap (λ w. fraction_end (t ++ rest) w) whole_same ∙ fraction_step (whole_end t) whole_le

  abbrev f : ℕ
  f = fraction_of t

  f_le : f ≤ length t
  f_le = fraction_le (whole_end t) whole_le

  no_exponent_end : (u : Text) (k : ℕ) → is_exponent (slice_index u k) ≡ false → exponent_end u k ≡ k
  no_exponent_end u k h = exponent_is u k ∙ ap (λ b. if b then digits u (exponent_start u k) else k) h

  some_exponent_end : (u : Text) (k : ℕ) → is_exponent (slice_index u k) ≡ true → exponent_end u k ≡ digits u (exponent_start u k)
  some_exponent_end u k h = exponent_is u k ∙ ap (λ b. if b then digits u (exponent_start u k) else k) h

  -- an exponent is not the last byte
  further : is_exponent (slice_index t f) ≡ true → f + 1 < length t
  further h = by_case (less_or (f + 1) (length t)) where
    by_case : (f + 1 < length t) ⊎ (length t ≤ f + 1) → f + 1 < length t
    by_case (inl k) = k
    by_case (inr k) =
        let start : exponent_start t f ≡ f + 1 = start_is t f ∙ ap (λ b. if is_sign b then f + 2 else f + 1) (slice_past (f + 1) t k) in
        let end : number_end t ≡ f + 1 = some_exponent_end t f h ∙ ap (λ n. digits t n) start ∙ past_out (f + 1) t k in
        let other : (number_end t == f) ≡ false = ap (λ n. n == f) end ∙ grind (arith, nat_tests) in
        let same : (number_end t == exponent_start t f) ≡ true = same_eq (number_end t) (exponent_start t f) (end ∙ sym start) in
        let lacks : lacks_exponent t ≡ true = rw (other, same) refl in
        let wrong : true ≡ false = sym lacks ∙ exponent in
        absurd (cc)

  start_same : f + 1 < length t → exponent_start (t ++ rest) f ≡ exponent_start t f
  start_same h = start_is (t ++ rest) f ∙ ap (λ b. if is_sign b then f + 2 else f + 1) (slice_in (f + 1) t rest h) ∙ sym (start_is t f)

  start_le : f + 1 < length t → exponent_start t f ≤ length t
  start_le h = subst (λ n. at_most n (length t)) (sym (start_is t f)) (by_test (is_sign (slice_index t (f + 1)))) where
    by_test : (b : Bool) → at_most (if b then f + 2 else f + 1) (length t)
    by_test true = omega (arith, h)
    by_test false = omega (arith, h)

  exponent_out : length t ≤ f → is_exponent (slice_index t f) ≡ false
  exponent_out h = ap is_exponent (slice_past f t h)

  exponent_behind : f ≡ length t → is_exponent (slice_index (t ++ rest) f) ≡ false
  exponent_behind h = ap (λ i. is_exponent (slice_index (t ++ rest) i)) h ∙ ap is_exponent (slice_out t rest) ∙ no_exponent (slice_index rest 0) e.stops

  -- it stands in both or in neither
  both_exponent : (b : Bool) → is_exponent (slice_index t f) ≡ b → is_exponent (slice_index (t ++ rest) f) ≡ b
  both_exponent b h = by_case (less_or f (length t)) where
    by_case : (f < length t) ⊎ (length t ≤ f) → is_exponent (slice_index (t ++ rest) f) ≡ b
    by_case (inl k) = ap is_exponent (slice_in f t rest k) ∙ h
    by_case (inr k) = let le = f_le in exponent_behind (omega (arith, le, k)) ∙ sym (exponent_out k) ∙ h

  exponent_step : (b : Bool) → is_exponent (slice_index t f) ≡ b → exponent_end (t ++ rest) f ≡ exponent_end t f
  exponent_step false h = no_exponent_end (t ++ rest) f (both_exponent false h) ∙ sym (no_exponent_end t f h)
  exponent_step true h =
      let k = further h in
      some_exponent_end (t ++ rest) f (both_exponent true h) ∙ ap (λ n. digits (t ++ rest) n) (start_same k)
      ∙ past_same (exponent_start t f) t rest (start_le k) behind ∙ sym (some_exponent_end t f h)

  number_same : number_end (t ++ rest) ≡ number_end t
  number_same = ap (λ n. exponent_end (t ++ rest) n) fraction_same ∙ exponent_step (is_exponent (slice_index t f)) refl

  exponent_whole : (b : Bool) → is_exponent (slice_index t f) ≡ b → lacks_exponent (t ++ rest) ≡ false
  exponent_whole false h =
      let end : number_end t ≡ f = no_exponent_end t f h in
      let same : (number_end (t ++ rest) == fraction_of (t ++ rest)) ≡ true = same_eq (number_end (t ++ rest)) (fraction_of (t ++ rest)) (number_same ∙ end ∙ sym fraction_same) in
      rw same refl
  exponent_whole true h =
      ap (λ n. not (n == fraction_of (t ++ rest)) && n == exponent_start (t ++ rest) (fraction_of (t ++ rest))) number_same
      ∙ ap (λ n. not (number_end t == n) && number_end t == exponent_start (t ++ rest) n) fraction_same
      ∙ ap (λ n. not (number_end t == f) && number_end t == n) (start_same (further h))
      ∙ exponent

  pub number_behind : IsNumber t (length t) → IsNumber (t ++ rest) (length t)
  number_behind n = record {
    begins = ap class_of begins ∙ n.begins;
    whole = ap (λ a. a == sign_end (t ++ rest)) whole_same ∙ ap (λ b. whole_end t == b) sign_same ∙ n.whole;
    fraction = ap (λ a. a == whole_end (t ++ rest) + 1) fraction_same ∙ ap (λ b. fraction_of t == b + 1) whole_same ∙ n.fraction;
    exponent = exponent_whole (is_exponent (slice_index t f)) refl;
    ends = n.ends ∙ sym number_same;
    alone = ap goes_on (slice_out t rest) ∙ no_more (slice_index rest 0) e.stops e.no_dot;
  }

  pub int_behind : IsToken IntValue t (length t) → IsToken IntValue (t ++ rest) (length t)
  int_behind n = (number_behind n.0, n.1 ∙ sym whole_same)

  pub float_behind : IsToken FloatValue t (length t) → IsToken FloatValue (t ++ rest) (length t)
  float_behind n = (number_behind n.0, ap (λ w. length t == w) whole_same ∙ n.1)

-- ---- from the token alone

pub number_some : (t : Text) → class_of (slice_index t 0) ≡ class_of 48 → 0 < length t
number_some [] h = absurd (cc)
number_some (x ∷ t) h = omega arith

pub int_alone : (t rest : Text) → IsToken IntValue t (length t) → Ends rest → IsToken IntValue (t ++ rest) (length t)
int_alone t rest n e = int_behind t rest e (number_some t n.0.begins) n.0.whole n.0.exponent n

pub float_alone : (t rest : Text) → IsToken FloatValue t (length t) → Ends rest → IsToken FloatValue (t ++ rest) (length t)
float_alone t rest n e = float_behind t rest e (number_some t n.0.begins) n.0.whole n.0.exponent n
