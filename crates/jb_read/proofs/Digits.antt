-- The digits of a number and its decimal text.
use Rattle.std.proofs.Common.{◌≡◌, ℕ, zero, suc, ◌+◌, ◌-◌, ◌*◌, ◌/◌, ◌%◌, ◌^◌, ◌<◌, ◌≤◌, Bool, true, false, cond, inl, inr, List, [], ◌∷◌, ◌++◌, drop, Option, Some, None, Result, Ok, refl, sym, ap, subst, ◌∙◌, append_assoc, arith}
use Rattle.std.specs.Prelude.{ℤ, pos, negsuc, neg_ℤ, nat_lt, nat_le, ◌==◌, ◌&&◌, ◌||◌}
use Rattle.std.specs.Fmt.{decimal}
use Rattle.std.proofs.lemmas.Fmt.{decimal_digit, decimal_step, decimal_by_steps}
use Rattle.std.proofs.lemmas.Bool.{true≢false, eqb-true, eq-eqb, ne_eqb, leb-true, le-leb, and_parts, and_from, or_parts, or_right, ltb-true, lt-ltb}
use Rattle.jb_read.specs.declared.fault.Broken.{Broken}
use Rattle.jb_read.specs.declared.fault.FaultKind.TheVariants.{Syntax, Float, NumberRange}
use Rattle.jb_read.specs.Bytes.{is_digit, begins}
use Rattle.jb_read.specs.Reading.{◌>>=◌, broken, fails}
use Rattle.jb_read.specs.Numbers.{digits_from, whole_part_at, number_of, is_minus, is_mark, checked_number, number_at}
use Rattle.jb_read.specs.Spelling.{SpellsNumber}
use Rattle.jb_read.proofs.Steps.{bind_ok, chosen, ok_is, broken_not_ok}

digit_bounds : (b : ℕ) → is_digit b ≡ true → (48 ≤ b) × (b ≤ 57)
digit_bounds b e = let p = and_parts (nat_le 48 b) (nat_le b 57) e in (leb-true 48 b p.0, leb-true b 57 p.1)

is_digit_at : (b : ℕ) → 48 ≤ b → b ≤ 57 → is_digit b ≡ true
is_digit_at b low high = and_from (nat_le 48 b) (nat_le b 57) (le-leb 48 b low) (le-leb b 57 high)

-- a further digit spells the number that it makes
decimal_more : (m b : ℕ) → 0 < m → 48 ≤ b → b ≤ 57 → 10 * m + (b - 48) < 2 ^ 64 → decimal (10 * m + (b - 48)) ≡ decimal m ++ (b ∷ [])
decimal_more m b some low high fits =
    let n = 10 * m + (b - 48) in
    let large : 10 ≤ n = omega arith in
    let front : n / 10 ≡ m = omega arith in
    let last : 48 + n % 10 ≡ b = omega arith in
    decimal_step n large fits ∙ rw (front, last) refl

digits_grow : (m : ℕ) (at : List ℕ) → m ≤ (digits_from m at).0
digits_grow m [] = omega arith
digits_grow m (b ∷ at) = grow_by (is_digit b) (digits_grow (10 * m + (b - 48)) at)
  where
    grow_by : (t : Bool) → 10 * m + (b - 48) ≤ (digits_from (10 * m + (b - 48)) at).0 → m ≤ (cond t (digits_from (10 * m + (b - 48)) at) (m, b ∷ at)).0
    grow_by true le = omega (arith, le)
    grow_by false le = omega arith

-- what digits spell behind those of m, and that they end
pub record Spelled (m : ℕ) (at : List ℕ) (r : ℕ × List ℕ) : Type 0 where
  pub decimal_is : decimal m ++ at ≡ decimal r.0 ++ r.1
  pub ends : begins is_digit r.1 ≡ false

digits_sound : (m : ℕ) (at : List ℕ) → 0 < m → (digits_from m at).0 < 2 ^ 64 → Spelled m at (digits_from m at)
digits_sound m [] some fits = record { decimal_is = refl; ends = refl }
digits_sound m (b ∷ at) some fits =
    by_test (is_digit b) refl (λ more. digits_sound (10 * m + (b - 48)) at (omega arith) more) fits
  where
    by_test : (t : Bool) → is_digit b ≡ t → ((digits_from (10 * m + (b - 48)) at).0 < 2 ^ 64 → Spelled (10 * m + (b - 48)) at (digits_from (10 * m + (b - 48)) at))
        → (cond t (digits_from (10 * m + (b - 48)) at) (m, b ∷ at)).0 < 2 ^ 64 → Spelled m (b ∷ at) (cond t (digits_from (10 * m + (b - 48)) at) (m, b ∷ at))
    by_test true e more fits =
        let inner = more fits in
        let bounds = digit_bounds b e in
        let grown = digits_grow (10 * m + (b - 48)) at in
        let step = decimal_more m b some bounds.0 bounds.1 (omega arith) in
        record { decimal_is = sym (append_assoc (decimal m) (b ∷ []) at) ∙ ap (λ (l : List ℕ). l ++ at) (sym step) ∙ inner.decimal_is; ends = inner.ends }
    by_test false e more fits = record { decimal_is = refl; ends = e }

above_zero : (b : ℕ) → 48 ≤ b → (b ≡ 48 → ⊥) → 0 < 10 * 0 + (b - 48)
above_zero b low differs = omega arith

-- the digits of a number that is read are its decimal text
pub whole_part_sound : (at : List ℕ) (r : ℕ × List ℕ) → whole_part_at at ≡ Ok r → r.0 < 2 ^ 64 → (at ≡ decimal r.0 ++ r.1) × (begins is_digit r.1 ≡ false)
unfolding whole_part_at
whole_part_sound [] r e fits = absurd (broken_not_ok (broken Syntax []) r e)
whole_part_sound (b ∷ at) r e fits =
    elim (chosen (b == 48) (cond (begins is_digit at) (fails Syntax at) (Ok (0, at))) (cond (is_digit b) (Ok (digits_from 0 (b ∷ at))) (fails Syntax (b ∷ at))) (Ok r) e) [
      | inl p ↦ (elim (chosen (begins is_digit at) (fails Syntax at) (Ok (0, at)) (Ok r) p.1) [
        | inl q ↦ absurd (broken_not_ok (broken Syntax at) r q.1)
        | inr q ↦ zero_sound b at r (eqb-true b 48 p.0) q.0 (ok_is (0, at) r q.1)
      ])
      | inr p ↦ (elim (chosen (is_digit b) (Ok (digits_from 0 (b ∷ at))) (fails Syntax (b ∷ at)) (Ok r) p.1) [
        | inl q ↦ some_sound b at r p.0 q.0 (ok_is (digits_from 0 (b ∷ at)) r q.1) fits
        | inr q ↦ absurd (broken_not_ok (broken Syntax (b ∷ at)) r q.1)
      ])
    ]
  where
    zero_sound : (b : ℕ) (at : List ℕ) (r : ℕ × List ℕ) → b ≡ 48 → begins is_digit at ≡ false → (0, at) ≡ r → (b ∷ at ≡ decimal r.0 ++ r.1) × (begins is_digit r.1 ≡ false)
    zero_sound b at r same ends is =
        let n : 0 ≡ r.0 = ap (λ (p : ℕ × List ℕ). p.0) is in
        let rest : at ≡ r.1 = ap (λ (p : ℕ × List ℕ). p.1) is in
        let text : decimal 0 ≡ 48 ∷ [] = decimal_digit 0 (omega arith) in
        (rw (same, ← n, ← rest, text) refl, rw (← rest) ends)

    some_sound : (b : ℕ) (at : List ℕ) (r : ℕ × List ℕ) → (b == 48) ≡ false → is_digit b ≡ true → digits_from 0 (b ∷ at) ≡ r → r.0 < 2 ^ 64 → (b ∷ at ≡ decimal r.0 ++ r.1) × (begins is_digit r.1 ≡ false)
    some_sound b at r nonzero digit is fits =
        let m = 10 * 0 + (b - 48) in
        let bounds = digit_bounds b digit in
        let no_zero : b ≡ 48 → ⊥ = λ same. true≢false (sym (eq-eqb b 48 same) ∙ nonzero) in
        let some : 0 < m = above_zero b bounds.0 no_zero in
        let read : digits_from m at ≡ r = rw digit at is in
        let text : decimal m ≡ b ∷ [] = decimal_digit m (omega arith) ∙ ap (λ (k : ℕ). k ∷ []) (let same : 48 + m ≡ b = omega arith in same) in
        let inner = digits_sound m at some (rw read fits) in
        (sym (ap (λ (l : List ℕ). l ++ at) text) ∙ inner.decimal_is ∙ rw read refl, rw read at inner.ends)

abbrev done : ℤ × List ℕ → Result (ℤ × List ℕ) Broken
done x = Ok x

in_range : (o : Option ℤ) (start rest : List ℕ) (r : ℤ × List ℕ) → (elim o as (λ _. Result (ℤ × List ℕ) Broken) [ None ↦ fails NumberRange start | Some z ↦ Ok (z, rest) ]) ≡ Ok r → (o ≡ Some r.0) × (rest ≡ r.1)
in_range None start rest r e = absurd (broken_not_ok (broken NumberRange start) r e)
in_range (Some z) start rest r e = let same = ok_is (z, rest) r e in (ap (λ (p : ℤ × List ℕ). Some p.0) same, ap (λ (p : ℤ × List ℕ). p.1) same)

-- what a number that is read has passed
record Passed (minus : Bool) (read : ℕ × List ℕ) (r : ℤ × List ℕ) : Type 0 where
  no_mark : begins is_mark read.1 ≡ false
  no_minus_zero : (minus && (read.0 == 0)) ≡ false
  number_is : number_of minus read.0 ≡ Some r.0
  rest_is : read.1 ≡ r.1

checked_sound : (start : List ℕ) (minus : Bool) (read : ℕ × List ℕ) (r : ℤ × List ℕ) → checked_number start minus read ≡ Ok r → Passed minus read r
checked_sound start minus read r e =
    elim (chosen (begins is_mark read.1 || (minus && (read.0 == 0))) (fails Float start) (elim (number_of minus read.0) as (λ _. Result (ℤ × List ℕ) Broken) [ None ↦ fails NumberRange start | Some z ↦ Ok (z, read.1) ]) (Ok r) e) [
      | inl p ↦ absurd (broken_not_ok (broken Float start) r p.1)
      | inr p ↦ (let parts = or_parts (begins is_mark read.1) (minus && (read.0 == 0)) p.0 in
          let ranged = in_range (number_of minus read.0) start read.1 r p.1 in
          record { no_mark = parts.0; no_minus_zero = parts.1; number_is = ranged.0; rest_is = ranged.1 })
    ]

some_is : (x y : ℤ) → Some x ≡ Some y → x ≡ y
some_is x y e = cc

within_64 : (n : ℕ) (z : ℤ) → number_of false n ≡ Some z → (n < 2 ^ 64) × (pos n ≡ z)
within_64 n z e = elim (chosen (nat_lt n (2 ^ 64)) (Some (pos n)) None (Some z) e) [
  | inl p ↦ (ltb-true n (2 ^ 64) p.0, some_is (pos n) z p.1)
  | inr p ↦ absurd cc
]

within_63 : (n : ℕ) (z : ℤ) → number_of true n ≡ Some z → (n ≤ 2 ^ 63) × (neg_ℤ (pos n) ≡ z)
within_63 n z e = elim (chosen (nat_le n (2 ^ 63)) (Some (neg_ℤ (pos n))) None (Some z) e) [
  | inl p ↦ (leb-true n (2 ^ 63) p.0, some_is (neg_ℤ (pos n)) z p.1)
  | inr p ↦ absurd cc
]

negative_sound : (n : ℕ) (z : ℤ) (at rest : List ℕ) → n ≤ 2 ^ 63 → (n == 0) ≡ false → neg_ℤ (pos n) ≡ z → at ≡ 45 ∷ (decimal n ++ rest) → begins is_digit rest ≡ false → begins is_mark rest ≡ false → SpellsNumber z at rest
negative_sound zero z at rest le some is spelled digit mark = absurd (true≢false (sym (eq-eqb 0 0 refl) ∙ some))
negative_sound (suc n) z at rest le some is spelled digit mark = subst (λ (x : ℤ). SpellsNumber x at rest) is (record { spelled = spelled; whole = omega arith; no_digit = digit; no_mark = mark })

minus_parts : (at : List ℕ) → begins is_minus at ≡ true → at ≡ 45 ∷ drop 1 at
minus_parts [] e = absurd cc
minus_parts (b ∷ at) e = let same : b ≡ 45 = eqb-true b 45 e in rw same refl

pub number_sound : (at : List ℕ) (r : ℤ × List ℕ) → number_at at ≡ Ok r → SpellsNumber r.0 at r.1
unfolding number_at
number_sound at r e =
    elim (chosen (begins is_minus at) (whole_part_at (drop 1 at) >>= checked_number at true) (whole_part_at at >>= checked_number at false) (Ok r) e) [
      | inl p ↦ (let a = bind_ok (whole_part_at (drop 1 at)) (checked_number at true) r p.1 in
          let passed = checked_sound at true a.0 r a.2 in
          let range = within_63 a.0.0 r.0 passed.number_is in
          let whole = whole_part_sound (drop 1 at) a.0 a.1 (omega arith) in
          negative_sound a.0.0 r.0 at r.1 range.0 passed.no_minus_zero range.1 (minus_parts at p.0 ∙ ap (λ (l : List ℕ). 45 ∷ l) (whole.0 ∙ ap (λ (l : List ℕ). decimal a.0.0 ++ l) passed.rest_is)) (rw passed.rest_is at whole.1) (rw passed.rest_is at passed.no_mark))
      | inr p ↦ (let a = bind_ok (whole_part_at at) (checked_number at false) r p.1 in
          let passed = checked_sound at false a.0 r a.2 in
          let range = within_64 a.0.0 r.0 passed.number_is in
          let whole = whole_part_sound at a.0 a.1 range.0 in
          subst (λ (x : ℤ). SpellsNumber x at r.1) range.1 (record { spelled = whole.0 ∙ ap (λ (l : List ℕ). decimal a.0.0 ++ l) passed.rest_is; whole = range.0; no_digit = rw passed.rest_is at whole.1; no_mark = rw passed.rest_is at passed.no_mark }))
    ]

-- ---- what a decimal text is read as

record Digits (n : ℕ) (ds : List ℕ) : Type 0 where
  lead : ℕ
  others : List ℕ
  parts : ds ≡ lead ∷ others
  digit : is_digit lead ≡ true
  nonzero : 0 < n → (lead == 48) ≡ false
  reads : (rest : List ℕ) → digits_from 0 (ds ++ rest) ≡ digits_from n rest

digit_steps : (m b : ℕ) (rest : List ℕ) → is_digit b ≡ true → digits_from m (b ∷ rest) ≡ digits_from (10 * m + (b - 48)) rest
digit_steps m b rest e = rw e refl

decimal_digits : (n : ℕ) → n < 2 ^ 64 → Digits n (decimal n)
decimal_digits n fits = decimal_by_steps Digits one more n fits
  where
    one : (n : ℕ) → n < 10 → Digits n ((48 + n) ∷ [])
    one n small = record {
      lead = 48 + n;
      others = [];
      parts = refl;
      digit = is_digit_at (48 + n) (omega arith) (omega arith);
      nonzero = λ some. ne_eqb (48 + n) 48 (λ e. omega arith);
      reads = λ rest. digit_steps 0 (48 + n) rest (is_digit_at (48 + n) (omega arith) (omega arith)) ∙ ap (λ (k : ℕ). digits_from k rest) (let same : 10 * 0 + (48 + n - 48) ≡ n = omega arith in same);
    }

    more : (n : ℕ) (ds : List ℕ) → 10 ≤ n → Digits (n / 10) ds → Digits n (ds ++ ((48 + n % 10) ∷ []))
    more n ds large h = record {
      lead = h.lead;
      others = h.others ++ ((48 + n % 10) ∷ []);
      parts = ap (λ (l : List ℕ). l ++ ((48 + n % 10) ∷ [])) h.parts;
      digit = h.digit;
      nonzero = λ some. h.nonzero (omega arith);
      reads = λ rest. ap (λ (l : List ℕ). digits_from 0 l) (append_assoc ds ((48 + n % 10) ∷ []) rest) ∙ h.reads ((48 + n % 10) ∷ rest)
          ∙ digit_steps (n / 10) (48 + n % 10) rest (is_digit_at (48 + n % 10) (omega arith) (omega arith)) ∙ ap (λ (k : ℕ). digits_from k rest) (let same : 10 * (n / 10) + (48 + n % 10 - 48) ≡ n = omega arith in same);
    }

digits_stop : (n : ℕ) (rest : List ℕ) → begins is_digit rest ≡ false → digits_from n rest ≡ (n, rest)
digits_stop n [] e = refl
digits_stop n (b ∷ rest) e = rw e refl

-- the decimal text of a number is read as that number, where no digit follows
whole_part_complete : (n : ℕ) (rest : List ℕ) → n < 2 ^ 64 → begins is_digit rest ≡ false → whole_part_at (decimal n ++ rest) ≡ Ok (n, rest)
unfolding whole_part_at
whole_part_complete zero rest fits ends =
    let text : decimal 0 ≡ 48 ∷ [] = decimal_digit 0 (omega arith) in
    rw (text, ends) refl
whole_part_complete (suc n) rest fits ends =
    let d = decimal_digits (suc n) fits in
    let nonzero : (d.lead == 48) ≡ false = d.nonzero (omega arith) in
    let read : digits_from 0 (d.lead ∷ (d.others ++ rest)) ≡ (suc n, rest) = ap (λ (l : List ℕ). digits_from 0 (l ++ rest)) (sym d.parts) ∙ d.reads rest ∙ digits_stop (suc n) rest ends in
    ap (λ (l : List ℕ). whole_part_at (l ++ rest)) d.parts ∙ rw (nonzero, d.digit) (ap (λ (x : ℕ × List ℕ). Ok x) (rw d.digit at read))

no_minus : (n : ℕ) (rest : List ℕ) → n < 2 ^ 64 → begins is_minus (decimal n ++ rest) ≡ false
no_minus n rest fits =
    let d = decimal_digits n fits in
    let bounds = digit_bounds d.lead d.digit in
    ap (λ (l : List ℕ). begins is_minus (l ++ rest)) d.parts ∙ ne_eqb d.lead 45 (λ e. omega arith)

pub number_complete : (z : ℤ) (at rest : List ℕ) → SpellsNumber z at rest → number_at at ≡ Ok (z, rest)
unfolding number_at
number_complete (pos n) at rest s =
    let unsigned = no_minus n rest s.whole in
    let digits = whole_part_complete n rest s.whole s.no_digit in
    let marks : (begins is_mark rest || (false && (n == 0))) ≡ false = rw s.no_mark refl in
    let ranged : nat_lt n (2 ^ 64) ≡ true = lt-ltb n (2 ^ 64) s.whole in
    rw (s.spelled, unsigned, digits, s.no_mark, ranged) refl
number_complete (negsuc n) at rest s =
    let digits = whole_part_complete (suc n) rest (omega (arith, s.whole)) s.no_digit in
    let some : (suc n == 0) ≡ false = ne_eqb (suc n) 0 (λ e. omega arith) in
    let ranged : nat_le (suc n) (2 ^ 63) ≡ true = le-leb (suc n) (2 ^ 63) (omega (arith, s.whole)) in
    rw (s.spelled, digits, s.no_mark, some, ranged) refl

-- the first byte of a number
pub record Lead (at : List ℕ) : Type 0 where
  pub lead : ℕ
  pub others : List ℕ
  pub parts : at ≡ lead ∷ others
  pub low : 45 ≤ lead
  pub high : lead ≤ 57
  pub digit : (is_minus lead || is_digit lead) ≡ true

pub number_lead : (z : ℤ) (at rest : List ℕ) → SpellsNumber z at rest → Lead at
number_lead (pos n) at rest s =
    let d = decimal_digits n s.whole in
    let bounds = digit_bounds d.lead d.digit in
    record { lead = d.lead; others = d.others ++ rest; parts = s.spelled ∙ ap (λ (l : List ℕ). l ++ rest) d.parts; low = omega (arith, bounds.0); high = bounds.1; digit = or_right (is_minus d.lead) (is_digit d.lead) d.digit }
number_lead (negsuc n) at rest s = record { lead = 45; others = decimal (suc n) ++ rest; parts = s.spelled; low = omega arith; high = omega arith; digit = refl }
