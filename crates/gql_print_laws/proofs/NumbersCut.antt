-- A number that is a token with something behind it is one by itself.
use Rattle.std.proofs.Common.{◌≡◌, ℕ, suc, ◌+◌, ◌<◌, ◌≤◌, Bool, true, false, [], ◌∷◌, ◌++◌, length, drop, refl, sym, ap, ◌∙◌, subst, inl, inr, ◌⊎◌, arith}
use Rattle.std.specs.Prelude.{◌==◌, ◌&&◌, not, slice_index, if◌then◌else◌}
use Rattle.std.specs.List.{prefix_len}
use Rattle.std.proofs.lemmas.Bool.Decides.{nat_tests}
use Rattle.gql_lexer.specs.Class.{is_digit, class_of}
use Rattle.gql_lexer.specs.Lex.{sign_end, whole_end, fraction_end, exponent_start, exponent_end, is_exponent, is_sign, goes_on}
use Rattle.gql_lexer.specs.Lexical.{IsToken, IsNumber, fraction_of, number_end, lacks_exponent}
use Rattle.gql_lexer.specs.declared.token.TokenKind.TheVariants.{IntValue, FloatValue}
use Rattle.gql_print_laws.specs.bridge.Said.{Text}
use Rattle.gql_print_laws.proofs.Numbers.{at_most, less_or, slice_in, slice_past, drop_front, drop_long, digits, whole_at, whole_is, fraction_is, exponent_is, start_is, same_eq}

prefix_cut : (p : ℕ → Bool) (xs rest : Text) → at_most (prefix_len p (xs ++ rest)) (length xs) → prefix_len p xs ≡ prefix_len p (xs ++ rest)
prefix_cut p [] rest h = omega (arith, h)
prefix_cut p (x ∷ xs) rest h = by_test (p x) h (λ k. prefix_cut p xs rest k) where
  by_test : (b : Bool) → at_most (if b then 1 + prefix_len p (xs ++ rest) else 0) (suc (length xs))
      → (at_most (prefix_len p (xs ++ rest)) (length xs) → prefix_len p xs ≡ prefix_len p (xs ++ rest))
      → (if b then 1 + prefix_len p xs else 0) ≡ (if b then 1 + prefix_len p (xs ++ rest) else 0)
  by_test true k more = ap (λ n. 1 + n) (more (omega (arith, k)))
  by_test false k more = refl

-- ---- each end is behind the one before

whole_at_further : (u : Text) (s : ℕ) → at_most s (whole_at u s)
unfolding whole_at
whole_at_further u s = by_test (slice_index u s == 0x30) where
  by_test : (b : Bool) → at_most s (if b then s + 1 else digits u s)
  by_test true = omega arith
  by_test false = omega arith

whole_further : (u : Text) → sign_end u ≤ whole_end u
whole_further u = subst (λ n. at_most (sign_end u) n) (sym (whole_is u)) (whole_at_further u (sign_end u))

fraction_further : (u : Text) (w : ℕ) → w ≤ fraction_end u w
fraction_further u w = subst (λ n. at_most w n) (sym (fraction_is u w)) (by_test (slice_index u w == 0x2E)) where
  by_test : (b : Bool) → at_most w (if b then digits u (w + 1) else w)
  by_test true = omega arith
  by_test false = omega arith

start_further : (u : Text) (f : ℕ) → f + 1 ≤ exponent_start u f
start_further u f = subst (λ n. at_most (f + 1) n) (sym (start_is u f)) (by_test (is_sign (slice_index u (f + 1)))) where
  by_test : (b : Bool) → at_most (f + 1) (if b then f + 2 else f + 1)
  by_test true = omega arith
  by_test false = omega arith

exponent_further : (u : Text) (f : ℕ) → f ≤ exponent_end u f
exponent_further u f = subst (λ n. at_most f n) (sym (exponent_is u f)) (by_test (is_exponent (slice_index u f))) where
  by_test : (b : Bool) → at_most f (if b then digits u (exponent_start u f) else f)
  by_test true = let a = start_further u f in omega (arith, a)
  by_test false = omega arith

other_way : (n m : ℕ) → (n == m) ≡ false → m ≤ n → m < n
other_way n m h le = grind (arith, nat_tests, h, le)

module _ (t rest : Text) where
  abbrev at : Text
  at = t ++ rest

  digits_cut : (from : ℕ) → from ≤ length t → digits at from ≤ length t → digits t from ≡ digits at from
  digits_cut from h le =
      let long = drop_long from t h in
      let e = drop_front from t rest h in
      let small : at_most (from + prefix_len is_digit (drop from t ++ rest)) (length t) = subst (λ l. at_most (from + prefix_len is_digit l) (length t)) e le in
      let cut = prefix_cut is_digit (drop from t) rest (omega (arith, long, small)) in
      ap (λ n. from + n) cut ∙ sym (ap (λ l. from + prefix_len is_digit l) e)

  module _ (number : IsNumber at (length t)) where
    abbrev w : ℕ
    w = whole_end at

    abbrev f : ℕ
    f = fraction_end at w

    f_le : f ≤ length t
    f_le = let a = exponent_further at f in let b = number.ends in omega (arith, a, b)

    w_le : w ≤ length t
    w_le = let a = fraction_further at w in let b = f_le in omega (arith, a, b)

    s_less : sign_end at < w
    s_less = other_way w (sign_end at) number.whole (whole_further at)

    some : 0 < length t
    some = let a = s_less in let b = w_le in omega (arith, a, b)

    begins_same : slice_index at 0 ≡ slice_index t 0
    begins_same = slice_in 0 t rest some

    sign_same : sign_end t ≡ sign_end at
    sign_same = ap (λ b. if b == 0x2D then 1 else 0) (sym begins_same)

    whole_at_cut : (s : ℕ) → s < length t → whole_at at s ≤ length t → whole_at t s ≡ whole_at at s
    unfolding whole_at
    whole_at_cut s h le =
        ap (λ b. if b == 0x30 then s + 1 else digits t s) (sym (slice_in s t rest h)) ∙ by_test (slice_index at s == 0x30) le where
          by_test : (b : Bool) → at_most (if b then s + 1 else digits at s) (length t) → (if b then s + 1 else digits t s) ≡ (if b then s + 1 else digits at s)
          by_test true k = refl
          by_test false k = digits_cut s (omega (arith, h)) k

    whole_cut : whole_end t ≡ w
    whole_cut =
        let a = s_less in
        let b = w_le in
        whole_is t ∙ ap (λ s. whole_at t s) sign_same
        ∙ whole_at_cut (sign_end at) (omega (arith, a, b)) (subst (λ n. at_most n (length t)) (whole_is at) b) ∙ sym (whole_is at)

    fraction_cut : fraction_end t w ≡ f
    fraction_cut = by_case (less_or w (length t)) where
      inside : w < length t → (b : Bool) → (slice_index at w == 0x2E) ≡ b → fraction_end t w ≡ f
      inside h true e =
          let is : f ≡ digits at (w + 1) = fraction_is at w ∙ ap (λ b. if b then digits at (w + 1) else w) e in
          let le = f_le in
          fraction_is t w ∙ ap (λ b. if b == 0x2E then digits t (w + 1) else w) (sym (slice_in w t rest h)) ∙ ap (λ b. if b then digits t (w + 1) else w) e
          ∙ digits_cut (w + 1) (omega (arith, h)) (omega (arith, le, is)) ∙ sym is
      inside h false e =
          fraction_is t w ∙ ap (λ b. if b == 0x2E then digits t (w + 1) else w) (sym (slice_in w t rest h)) ∙ ap (λ b. if b then digits t (w + 1) else w) e
          ∙ sym (fraction_is at w ∙ ap (λ b. if b then digits at (w + 1) else w) e)

      outside : length t ≤ w → (b : Bool) → (slice_index at w == 0x2E) ≡ b → w ≡ f
      outside h true e =
          let is : f ≡ digits at (w + 1) = fraction_is at w ∙ ap (λ b. if b then digits at (w + 1) else w) e in
          let le = f_le in
          absurd (omega (arith, h, is, le))
      outside h false e = sym (fraction_is at w ∙ ap (λ b. if b then digits at (w + 1) else w) e)

      by_case : (w < length t) ⊎ (length t ≤ w) → fraction_end t w ≡ f
      by_case (inl h) = inside h (slice_index at w == 0x2E) refl
      by_case (inr h) =
          fraction_is t w ∙ ap (λ b. if b == 0x2E then digits t (w + 1) else w) (slice_past w t h) ∙ outside h (slice_index at w == 0x2E) refl

    fraction_of_cut : fraction_of t ≡ f
    fraction_of_cut = ap (λ n. fraction_end t n) whole_cut ∙ fraction_cut

    -- the exponent, where it stands
    record Exponent : Type 0 where
      end : exponent_end t f ≡ length t
      lacks : (not (length t == f) && length t == exponent_start t f) ≡ false

    no_exponent : is_exponent (slice_index at f) ≡ false → Exponent
    no_exponent e =
        let is : exponent_end at f ≡ f = exponent_is at f ∙ ap (λ b. if b then digits at (exponent_start at f) else f) e in
        let long : length t ≡ f = number.ends ∙ is in
        let past : is_exponent (slice_index t f) ≡ false = ap is_exponent (slice_past f t (omega (arith, long))) in
        let same : (length t == f) ≡ true = same_eq (length t) f long in
        record { end = exponent_is t f ∙ ap (λ b. if b then digits t (exponent_start t f) else f) past ∙ sym long; lacks = rw same refl }

    some_exponent : is_exponent (slice_index at f) ≡ true → Exponent
    some_exponent e =
        let is : exponent_end at f ≡ digits at (exponent_start at f) = exponent_is at f ∙ ap (λ b. if b then digits at (exponent_start at f) else f) e in
        let long : length t ≡ digits at (exponent_start at f) = number.ends ∙ is in
        let a = start_further at f in
        by_case long a (less_or (f + 1) (length t)) where
          started : f + 1 < length t → exponent_start t f ≡ exponent_start at f
          started h = start_is t f ∙ ap (λ b. if is_sign b then f + 2 else f + 1) (sym (slice_in (f + 1) t rest h)) ∙ sym (start_is at f)

          -- it would be the last byte, and have no digits
          last : length t ≡ digits at (exponent_start at f) → length t ≤ f + 1 → f + 1 ≤ exponent_start at f → ⊥
          last long h a =
              let start : length t ≡ exponent_start at f = omega (arith, long, h, a) in
              let other : (number_end at == f) ≡ false = let n = number.ends in grind (arith, nat_tests, n, a, start) in
              let same : (number_end at == exponent_start at f) ≡ true = same_eq (number_end at) (exponent_start at f) (sym number.ends ∙ start) in
              let lacks : lacks_exponent at ≡ true = rw (other, same) refl in
              let wrong : true ≡ false = sym lacks ∙ number.exponent in
              absurd (cc)

          by_case : length t ≡ digits at (exponent_start at f) → f + 1 ≤ exponent_start at f → (f + 1 < length t) ⊎ (length t ≤ f + 1) → Exponent
          by_case long a (inl h) =
              let start = started h in
              let here : is_exponent (slice_index t f) ≡ true = ap is_exponent (sym (slice_in f t rest (omega (arith, h)))) ∙ e in
              record {
                end = exponent_is t f ∙ ap (λ b. if b then digits t (exponent_start t f) else f) here ∙ ap (λ n. digits t n) start
                    ∙ digits_cut (exponent_start at f) (omega (arith, long)) (omega (arith, long)) ∙ sym long;
                lacks = ap (λ n. not (length t == f) && length t == n) start ∙ ap (λ n. not (n == f) && n == exponent_start at f) number.ends ∙ number.exponent;
              }
          by_case long a (inr h) = absurd (last long h a)

    exponent_cut : (b : Bool) → is_exponent (slice_index at f) ≡ b → Exponent
    exponent_cut true e = some_exponent e
    exponent_cut false e = no_exponent e

    number_is : number_end t ≡ length t
    number_is = ap (λ n. exponent_end t n) fraction_of_cut ∙ (exponent_cut (is_exponent (slice_index at f)) refl).end

    pub number_alone : IsNumber t (length t)
    number_alone = record {
      begins = ap class_of (sym begins_same) ∙ number.begins;
      whole = ap (λ n. n == sign_end t) whole_cut ∙ ap (λ n. w == n) sign_same ∙ number.whole;
      fraction = ap (λ n. n == whole_end t + 1) fraction_of_cut ∙ ap (λ n. f == n + 1) whole_cut ∙ number.fraction;
      exponent = ap (λ n. not (n == fraction_of t) && n == exponent_start t (fraction_of t)) number_is
          ∙ ap (λ n. not (length t == n) && length t == exponent_start t n) fraction_of_cut ∙ (exponent_cut (is_exponent (slice_index at f)) refl).lacks;
      ends = sym number_is;
      alone = ap goes_on (slice_past (length t) t (omega arith));
    }

    pub whole_alone : whole_end t ≡ whole_end at
    whole_alone = whole_cut

  pub int_cut : IsToken IntValue at (length t) → IsToken IntValue t (length t)
  int_cut n = (number_alone n.0, n.1 ∙ sym (whole_alone n.0))

  pub float_cut : IsToken FloatValue at (length t) → IsToken FloatValue t (length t)
  float_cut n = (number_alone n.0, ap (λ w. length t == w) (whole_alone n.0) ∙ n.1)
