-- Where a value that is no array and no object breaks, and where a key does: what is refused is broken, and what is broken
-- is refused.
use Rattle.std.proofs.Common.{◌≡◌, ℕ, ◌+◌, ◌-◌, ◌*◌, ◌≤◌, Bool, true, false, cond, ◌⊎◌, inl, inr, List, [], ◌∷◌, ◌++◌, drop, Option, Some, None, ℤ, Result, Ok, Err, refl, sym, ap, subst, ◌∙◌, arith}
use Rattle.std.specs.Prelude.{◌==◌, ◌||◌, ◌&&◌, nat_le, codes}
use Rattle.std.specs.List.{list_all}
use Rattle.std.proofs.lemmas.Bool.{true≢false, eqb-true, ne_eqb, and_parts, and_from, or_parts, or_from, or_cases, leb-true}
use Rattle.jb_tree.specs.declared.value.Value.{Value}
use Rattle.jb_tree.specs.declared.value.Value.TheVariants as value
use Rattle.jb_read.specs.declared.fault.Broken.{Broken}
use Rattle.jb_read.specs.declared.fault.FaultKind.TheVariants.{Syntax, Float, NumberRange}
use Rattle.jb_read.specs.Bytes.{begins, is_digit, skip_white}
use Rattle.jb_read.specs.Numbers.{digits_from, whole_part_at, number_of, is_minus, is_mark, checked_number, number_at}
use Rattle.jb_read.specs.Reading.{◌>>=◌, broken, fails, byte_at, word_at}
use Rattle.jb_read.specs.Strings.{text_at}
use Rattle.jb_read.specs.Values.{begins_with, scalar_at, key_at}
use Rattle.jb_read.specs.Spelling.{SpellsString}
use Rattle.jb_read.specs.ScalarFaults.{WordBreaks, digits_value, IsWholePart, SpellsWhole, SpellsSign, NumberBreaks, no_digit, leading_zero, no_whole, out_of_range, begins_number, begins_scalar, ScalarBreaks, no_value, in_string, in_null, in_true, in_false, in_number, KeyBreaks, no_quote, in_key_string, no_colon}
use Rattle.jb_read.proofs.Stopped.{stopped, same_stop, bind_err, wrap_err, byte_breaks, byte_refused}
use Rattle.jb_read.proofs.StringBreaks.{string_breaks}
use Rattle.jb_read.proofs.StringStops.{string_stops}
use Rattle.jb_read.proofs.Steps.{chosen, byte_sound, byte_complete}
use Rattle.jb_read.proofs.Characters.{string_sound, text_complete}

-- ---- words

word_breaks : (word at : List ℕ) (e : Broken) → word_at word at ≡ Err e → WordBreaks e word at
word_breaks [] at e h = absurd cc
word_breaks (b ∷ word) at e h = by_byte (λ rest s. word_breaks word rest e s) (bind_err (byte_at b at) (λ r. word_at word r.1) e h)
  where
    by_byte : ((rest : List ℕ) → word_at word rest ≡ Err e → WordBreaks e word rest)
        → (byte_at b at ≡ Err e) ⊎ ((x : Unit {0} × List ℕ) × (byte_at b at ≡ Ok x) × (word_at word x.1 ≡ Err e)) → WordBreaks e (b ∷ word) at
    by_byte more (inl f) = let p = byte_breaks b at e f in record { front = []; wanted = b; others = word; behind = at; word_is = refl; spelled = refl; differs = p.0; fault_is = p.1 }
    by_byte more (inr x) = let w = more x.0.1 x.2 in record {
      front = b ∷ w.front;
      wanted = w.wanted;
      others = w.others;
      behind = w.behind;
      word_is = ap (λ (l : List ℕ). b ∷ l) w.word_is;
      spelled = byte_sound b at x.0 x.1 ∙ ap (λ (l : List ℕ). b ∷ l) w.spelled;
      differs = w.differs;
      fault_is = w.fault_is;
    }

front_refused : (front : List ℕ) (wanted : ℕ) (others behind : List ℕ) → begins_with wanted behind ≡ false → word_at (front ++ wanted ∷ others) (front ++ behind) ≡ Err (broken Syntax behind)
front_refused [] wanted others behind e = rw (byte_refused wanted behind e) refl
front_refused (b ∷ front) wanted others behind e = rw (byte_complete b (front ++ behind)) (front_refused front wanted others behind e)

word_refused : (word at : List ℕ) (e : Broken) → WordBreaks e word at → word_at word at ≡ Err e
word_refused word at e w = rw (w.word_is, w.spelled, w.fault_is) (front_refused w.front w.wanted w.others w.behind w.differs)

-- ---- numbers

record Run (m : ℕ) (at : List ℕ) (r : ℕ × List ℕ) : Type 0 where
  digits : List ℕ
  spelled : at ≡ digits ++ r.1
  are_digits : list_all is_digit digits ≡ true
  all : begins is_digit r.1 ≡ false
  number_is : r.0 ≡ digits_value m digits

digits_run : (m : ℕ) (at : List ℕ) → Run m at (digits_from m at)
digits_run m [] = record { digits = []; spelled = refl; are_digits = refl; all = refl; number_is = refl }
digits_run m (b ∷ at) = by_test (is_digit b) refl (digits_run (10 * m + (b - 48)) at)
  where
    by_test : (t : Bool) → is_digit b ≡ t → Run (10 * m + (b - 48)) at (digits_from (10 * m + (b - 48)) at) → Run m (b ∷ at) (cond t (digits_from (10 * m + (b - 48)) at) (m, b ∷ at))
    by_test true e more = record { digits = b ∷ more.digits; spelled = ap (λ (l : List ℕ). b ∷ l) more.spelled; are_digits = and_from (is_digit b) (list_all is_digit more.digits) e more.are_digits; all = more.all; number_is = more.number_is }
    by_test false e more = record { digits = []; spelled = refl; are_digits = refl; all = e; number_is = refl }

digits_stop : (n : ℕ) (rest : List ℕ) → begins is_digit rest ≡ false → digits_from n rest ≡ (n, rest)
digits_stop n [] e = refl
digits_stop n (b ∷ rest) e = rw e refl

run_read : (digits : List ℕ) (m : ℕ) (rest : List ℕ) → list_all is_digit digits ≡ true → begins is_digit rest ≡ false → digits_from m (digits ++ rest) ≡ (digits_value m digits, rest)
run_read [] m rest a e = digits_stop m rest e
run_read (b ∷ bs) m rest a e = let p = and_parts (is_digit b) (list_all is_digit bs) a in rw p.0 (run_read bs (10 * m + (b - 48)) rest p.1 e)

-- what stands where the digits of a number are read
data Whole (at : List ℕ) : Result (ℕ × List ℕ) Broken → Type 0 where
  none : begins is_digit at ≡ false → Whole at (Err (broken Syntax at))
  zeros : (others : List ℕ) → at ≡ 48 ∷ others → begins is_digit others ≡ true → Whole at (Err (broken Syntax others))
  read : (n : ℕ) (rest : List ℕ) → SpellsWhole n at rest → Whole at (Ok (n, rest))

whole_of : (at : List ℕ) → Whole at (whole_part_at at)
unfolding whole_part_at
whole_of [] = none refl
whole_of (b ∷ at) = by_zero (b == 48) refl
  where
    run : (b == 48) ≡ false → is_digit b ≡ true → Run 0 (b ∷ at) (digits_from 0 (b ∷ at)) → Whole (b ∷ at) (Ok (digits_from 0 (b ∷ at)))
    run zero digit r = read (digits_from 0 (b ∷ at)).0 (digits_from 0 (b ∷ at)).1 (record { digits = r.digits; spelled = r.spelled; are_digits = r.are_digits; whole = lead r.digits r.spelled r.all; all = r.all; number_is = r.number_is })
      where
        lead : (digits : List ℕ) → b ∷ at ≡ digits ++ (digits_from 0 (b ∷ at)).1 → begins is_digit (digits_from 0 (b ∷ at)).1 ≡ false → IsWholePart digits
        lead [] s ends = absurd (true≢false (sym digit ∙ ap (begins is_digit) s ∙ ends))
        lead (d ∷ ds) s ends = let same : d ≡ b = cc in inr (rw same digit, rw same zero)

    by_digit : (b == 48) ≡ false → (t : Bool) → is_digit b ≡ t → Whole (b ∷ at) (cond t (Ok (digits_from 0 (b ∷ at))) (fails Syntax (b ∷ at)))
    by_digit zero true e = run zero e (digits_run 0 (b ∷ at))
    by_digit zero false e = none e

    by_other : b ≡ 48 → (t : Bool) → begins is_digit at ≡ t → Whole (b ∷ at) (cond t (fails Syntax at) (Ok (0, at)))
    by_other same true e = zeros at (ap (λ (k : ℕ). k ∷ at) same) e
    by_other same false e = read 0 at (record { digits = 48 ∷ []; spelled = ap (λ (k : ℕ). k ∷ at) same; are_digits = refl; whole = inl refl; all = e; number_is = refl })

    by_zero : (t : Bool) → (b == 48) ≡ t → Whole (b ∷ at) (cond t (cond (begins is_digit at) (fails Syntax at) (Ok (0, at))) (cond (is_digit b) (Ok (digits_from 0 (b ∷ at))) (fails Syntax (b ∷ at))))
    by_zero true e = by_other (eqb-true b 48 e) (begins is_digit at) refl
    by_zero false e = by_digit e (is_digit b) refl

-- a result of checking the range
ranged_breaks : (o : Option ℤ) (start rest : List ℕ) (e : Broken) → (elim o as (λ _. Result (ℤ × List ℕ) Broken) [ None ↦ fails NumberRange start | Some z ↦ Ok (z, rest) ]) ≡ Err e → (o ≡ None) × (e ≡ broken NumberRange start)
ranged_breaks None start rest e h = (refl, same_stop (broken NumberRange start) e h)
ranged_breaks (Some z) start rest e h = absurd cc

part_breaks : (minus : Bool) (at inside : List ℕ) (e : Broken) → SpellsSign minus at inside → (r : Result (ℕ × List ℕ) Broken) → Whole inside r → (r >>= checked_number at minus) ≡ Err e → NumberBreaks e at
part_breaks minus at inside e s _ (none d) h = no_digit minus inside s d (same_stop (broken Syntax inside) e h)
part_breaks minus at inside e s _ (zeros others z d) h = leading_zero minus inside others s z d (same_stop (broken Syntax others) e h)
part_breaks minus at inside e s _ (read n rest w) h =
    elim (chosen (begins is_mark rest || (minus && (n == 0))) (fails Float at) (elim (number_of minus n) as (λ _. Result (ℤ × List ℕ) Broken) [ None ↦ fails NumberRange at | Some z ↦ Ok (z, rest) ]) (Err e) h) [
      | inl p ↦ no_whole minus inside n rest s w p.0 (same_stop (broken Float at) e p.1)
      | inr p ↦ (let q = ranged_breaks (number_of minus n) at rest e p.1 in out_of_range minus inside n rest s w p.0 q.0 q.1)
    ]

minus_parts : (at : List ℕ) → begins is_minus at ≡ true → at ≡ 45 ∷ drop 1 at
minus_parts [] e = absurd cc
minus_parts (b ∷ at) e = let same : b ≡ 45 = eqb-true b 45 e in rw same refl

number_breaks : (at : List ℕ) (e : Broken) → number_at at ≡ Err e → NumberBreaks e at
unfolding number_at
number_breaks at e h =
    elim (chosen (begins is_minus at) (whole_part_at (drop 1 at) >>= checked_number at true) (whole_part_at at >>= checked_number at false) (Err e) h) [
      | inl p ↦ part_breaks true at (drop 1 at) e (minus_parts at p.0) (whole_part_at (drop 1 at)) (whole_of (drop 1 at)) p.1
      | inr p ↦ part_breaks false at at e (refl, p.0) (whole_part_at at) (whole_of at) p.1
    ]

number_signed : (minus : Bool) (at inside : List ℕ) → SpellsSign minus at inside → number_at at ≡ (whole_part_at inside >>= checked_number at minus)
unfolding number_at
number_signed true at inside s = rw s refl
number_signed false at inside s = rw s.1 (ap (λ (l : List ℕ). whole_part_at l >>= checked_number at false) s.0)

no_digit_read : (at : List ℕ) → begins is_digit at ≡ false → whole_part_at at ≡ Err (broken Syntax at)
unfolding whole_part_at
no_digit_read [] d = refl
no_digit_read (b ∷ at) d = let no_zero : (b == 48) ≡ false = ne_eqb b 48 (λ same. zero_is_digit same) in rw (no_zero, d) refl
  where
    zero_is_digit : b ≡ 48 → ⊥
    zero_is_digit same = true≢false (ap is_digit (sym same) ∙ d)

zeros_read : (at others : List ℕ) → at ≡ 48 ∷ others → begins is_digit others ≡ true → whole_part_at at ≡ Err (broken Syntax others)
unfolding whole_part_at
zeros_read at others z d = rw (z, d) refl

whole_read : (n : ℕ) (at rest : List ℕ) → SpellsWhole n at rest → whole_part_at at ≡ Ok (n, rest)
unfolding whole_part_at
whole_read n at rest w = ap whole_part_at w.spelled ∙ by_kind w.whole ∙ ap (λ (k : ℕ). Ok (k, rest)) (sym w.number_is)
  where
    by_first : (digits : List ℕ) → list_all is_digit digits ≡ true → begins is_digit digits ≡ true → begins_with 48 digits ≡ false → whole_part_at (digits ++ rest) ≡ Ok (digits_value 0 digits, rest)
    by_first [] a d z = absurd cc
    by_first (b ∷ bs) a d z = let all = run_read (b ∷ bs) 0 rest a w.all in rw (z, d) (ap (λ (x : ℕ × List ℕ). Ok x) (rw d at all))

    by_kind : IsWholePart w.digits → whole_part_at (w.digits ++ rest) ≡ Ok (digits_value 0 w.digits, rest)
    by_kind (inl z) = rw (z, w.all) refl
    by_kind (inr p) = by_first w.digits w.are_digits p.0 p.1

number_stops : (at : List ℕ) (e : Broken) → NumberBreaks e at → number_at at ≡ Err e
number_stops at e (no_digit minus inside s d f) = number_signed minus at inside s ∙ rw (no_digit_read inside d, f) refl
number_stops at e (leading_zero minus inside others s z d f) = number_signed minus at inside s ∙ rw (zeros_read inside others z d, f) refl
number_stops at e (no_whole minus inside n rest s w m f) = number_signed minus at inside s ∙ rw (whole_read n inside rest w, m, f) refl
number_stops at e (out_of_range minus inside n rest s w m o f) = number_signed minus at inside s ∙ rw (whole_read n inside rest w, m, o, f) refl

-- ---- values that are no arrays and no objects

abbrev after_word : Value → Unit {0} × List ℕ → Result (Value × List ℕ) Broken
after_word v word = Ok (v, word.1)

abbrev string_value : List ℕ × List ℕ → Result (Value × List ℕ) Broken
string_value text = Ok (value.String text.0, text.1)

abbrev number_value : ℤ × List ℕ → Result (Value × List ℕ) Broken
number_value number = Ok (value.Number number.0, number.1)

letter_breaks : (v : Value) (letter b : ℕ) (others at : List ℕ) (e : Broken) → b ≡ letter → (word_at (letter ∷ others) (b ∷ at) >>= after_word v) ≡ Err e → WordBreaks e others at
letter_breaks v letter b others at e same h =
    let w : word_at (letter ∷ others) (b ∷ at) ≡ Err e = wrap_err (word_at (letter ∷ others) (b ∷ at)) (λ _. v) e h in
    let step : word_at (letter ∷ others) (letter ∷ at) ≡ word_at others at = rw (byte_complete letter at) refl in
    word_breaks others at e (sym step ∙ ap (λ (k : ℕ). word_at (letter ∷ others) (k ∷ at)) (sym same) ∙ w)

letter_stops : (v : Value) (letter : ℕ) (others at : List ℕ) (e : Broken) → WordBreaks e others at → (word_at (letter ∷ others) (letter ∷ at) >>= after_word v) ≡ Err e
letter_stops v letter others at e w = rw (byte_complete letter at, word_refused others at e w) refl

pub scalar_breaks : (at : List ℕ) (e : Broken) → scalar_at at ≡ Err e → ScalarBreaks e at
unfolding scalar_at
scalar_breaks [] e h = no_value refl (same_stop (broken Syntax []) e h)
scalar_breaks (b ∷ at) e h = elim (chosen (b == 34) (text_at at >>= string_value) _ (Err e) h) [
  | inl p ↦ in_string at (ap (λ (k : ℕ). k ∷ at) (eqb-true b 34 p.0)) (string_breaks at e (wrap_err (text_at at) (λ text. value.String text) e p.1))
  | inr p ↦ by_null p.0 p.1
]
  where
    by_number : (b == 34) ≡ false → (b == 110) ≡ false → (b == 116) ≡ false → (b == 102) ≡ false
        → cond (is_minus b || is_digit b) (number_at (b ∷ at) >>= number_value) (fails Syntax (b ∷ at)) ≡ Err e → ScalarBreaks e (b ∷ at)
    by_number s n t f h = elim (chosen (is_minus b || is_digit b) (number_at (b ∷ at) >>= number_value) (fails Syntax (b ∷ at)) (Err e) h) [
      | inl p ↦ in_number p.0 (number_breaks (b ∷ at) e (wrap_err (number_at (b ∷ at)) (λ z. value.Number z) e p.1))
      | inr p ↦ no_value (or_from (b == 34) _ s (or_from (b == 110) _ n (or_from (b == 116) _ t (or_from (b == 102) _ f p.0)))) (same_stop (broken Syntax (b ∷ at)) e p.1)
    ]

    by_false : (b == 34) ≡ false → (b == 110) ≡ false → (b == 116) ≡ false
        → cond (b == 102) (word_at (codes "false") (b ∷ at) >>= after_word (value.Bool false)) (cond (is_minus b || is_digit b) (number_at (b ∷ at) >>= number_value) (fails Syntax (b ∷ at))) ≡ Err e → ScalarBreaks e (b ∷ at)
    by_false s n t h = elim (chosen (b == 102) (word_at (codes "false") (b ∷ at) >>= after_word (value.Bool false)) _ (Err e) h) [
      | inl p ↦ (let same = eqb-true b 102 p.0 in in_false at (ap (λ (k : ℕ). k ∷ at) same) (letter_breaks (value.Bool false) 102 b (codes "alse") at e same p.1))
      | inr p ↦ by_number s n t p.0 p.1
    ]

    by_true : (b == 34) ≡ false → (b == 110) ≡ false
        → cond (b == 116) (word_at (codes "true") (b ∷ at) >>= after_word (value.Bool true)) (cond (b == 102) (word_at (codes "false") (b ∷ at) >>= after_word (value.Bool false)) (cond (is_minus b || is_digit b) (number_at (b ∷ at) >>= number_value) (fails Syntax (b ∷ at)))) ≡ Err e → ScalarBreaks e (b ∷ at)
    by_true s n h = elim (chosen (b == 116) (word_at (codes "true") (b ∷ at) >>= after_word (value.Bool true)) _ (Err e) h) [
      | inl p ↦ (let same = eqb-true b 116 p.0 in in_true at (ap (λ (k : ℕ). k ∷ at) same) (letter_breaks (value.Bool true) 116 b (codes "rue") at e same p.1))
      | inr p ↦ by_false s n p.0 p.1
    ]

    by_null : (b == 34) ≡ false
        → cond (b == 110) (word_at (codes "null") (b ∷ at) >>= after_word value.Null) (cond (b == 116) (word_at (codes "true") (b ∷ at) >>= after_word (value.Bool true)) (cond (b == 102) (word_at (codes "false") (b ∷ at) >>= after_word (value.Bool false)) (cond (is_minus b || is_digit b) (number_at (b ∷ at) >>= number_value) (fails Syntax (b ∷ at))))) ≡ Err e → ScalarBreaks e (b ∷ at)
    by_null s h = elim (chosen (b == 110) (word_at (codes "null") (b ∷ at) >>= after_word value.Null) _ (Err e) h) [
      | inl p ↦ (let same = eqb-true b 110 p.0 in in_null at (ap (λ (k : ℕ). k ∷ at) same) (letter_breaks value.Null 110 b (codes "ull") at e same p.1))
      | inr p ↦ by_true s p.0 p.1
    ]

-- what begins a number begins nothing else
record NumberByte (b : ℕ) : Type 0 where
  quote : (b == 34) ≡ false
  n : (b == 110) ≡ false
  t : (b == 116) ≡ false
  f : (b == 102) ≡ false

number_byte : (b : ℕ) → (is_minus b || is_digit b) ≡ true → NumberByte b
number_byte b e = elim (or_cases (is_minus b) (is_digit b) e) [
  | inl p ↦ (let same : b ≡ 45 = eqb-true b 45 p in by_bounds (omega (arith, same)) (omega (arith, same)))
  | inr p ↦ (let d = and_parts (nat_le 48 b) (nat_le b 57) p in let low : 48 ≤ b = leb-true 48 b d.0 in let high : b ≤ 57 = leb-true b 57 d.1 in by_bounds (omega (arith, low)) high)
]
  where
    by_bounds : 45 ≤ b → b ≤ 57 → NumberByte b
    by_bounds low high = record { quote = ne_eqb b 34 (λ e. omega arith); n = ne_eqb b 110 (λ e. omega arith); t = ne_eqb b 116 (λ e. omega arith); f = ne_eqb b 102 (λ e. omega arith) }

number_scalar : (at : List ℕ) (e : Broken) → begins_number at ≡ true → number_at at ≡ Err e → scalar_at at ≡ Err e
unfolding scalar_at
number_scalar [] e b h = absurd cc
number_scalar (b ∷ at) e m h = let p = number_byte b m in rw (p.quote, p.n, p.t, p.f, m, h) refl

other_scalar : (at : List ℕ) → begins_scalar at ≡ false → scalar_at at ≡ Err (broken Syntax at)
unfolding scalar_at
other_scalar [] e = refl
other_scalar (b ∷ at) e =
    let s = or_parts (b == 34) _ e in
    let n = or_parts (b == 110) _ s.1 in
    let t = or_parts (b == 116) _ n.1 in
    let f = or_parts (b == 102) _ t.1 in
    rw (s.0, n.0, t.0, f.0, f.1) refl

pub scalar_stops : (at : List ℕ) (e : Broken) → ScalarBreaks e at → scalar_at at ≡ Err e
unfolding scalar_at
scalar_stops at e (no_value b f) = other_scalar at b ∙ ap (λ (d : Broken). stopped d) (sym f)
scalar_stops at e (in_string inside parts b) = rw (parts, string_stops inside e b) refl
scalar_stops at e (in_null inside parts w) = ap scalar_at parts ∙ letter_stops value.Null 110 (codes "ull") inside e w
scalar_stops at e (in_true inside parts w) = ap scalar_at parts ∙ letter_stops (value.Bool true) 116 (codes "rue") inside e w
scalar_stops at e (in_false inside parts w) = ap scalar_at parts ∙ letter_stops (value.Bool false) 102 (codes "alse") inside e w
scalar_stops at e (in_number b n) = number_scalar at e b (number_stops at e n)

-- ---- keys

abbrev after_colon : List ℕ → Unit {0} × List ℕ → Result (List ℕ × List ℕ) Broken
after_colon key colon = Ok (key, skip_white colon.1)

pub key_breaks : (at : List ℕ) (e : Broken) → key_at at ≡ Err e → KeyBreaks e at
unfolding key_at
key_breaks at e h = by_quote (bind_err (byte_at 34 at) (λ quote. text_at quote.1 >>= λ key. byte_at 58 (skip_white key.1) >>= after_colon key.0) e h)
  where
    by_colon : (quote : Unit {0} × List ℕ) → at ≡ 34 ∷ quote.1 → (key : List ℕ × List ℕ) → text_at quote.1 ≡ Ok key → byte_at 58 (skip_white key.1) ≡ Err e → KeyBreaks e at
    by_colon quote parts key made h =
        let b = byte_breaks 58 (skip_white key.1) e h in
        no_colon key.0 key.1 (subst (λ (l : List ℕ). SpellsString key.0 l key.1) (sym parts) (string_sound quote.1 key made)) b.0 b.1

    by_text : (quote : Unit {0} × List ℕ) → at ≡ 34 ∷ quote.1 → (text_at quote.1 ≡ Err e) ⊎ ((key : List ℕ × List ℕ) × (text_at quote.1 ≡ Ok key) × ((byte_at 58 (skip_white key.1) >>= after_colon key.0) ≡ Err e)) → KeyBreaks e at
    by_text quote parts (inl f) = in_key_string quote.1 parts (string_breaks quote.1 e f)
    by_text quote parts (inr k) = by_colon quote parts k.0 k.1 (wrap_colon (byte_at 58 (skip_white k.0.1)) k.0.0 k.2)
      where
        wrap_colon : (r : Result (Unit {0} × List ℕ) Broken) (key : List ℕ) → (r >>= after_colon key) ≡ Err e → r ≡ Err e
        wrap_colon (Ok x) key h = absurd cc
        wrap_colon (Err d) key h = cc

    by_quote : (byte_at 34 at ≡ Err e) ⊎ ((quote : Unit {0} × List ℕ) × (byte_at 34 at ≡ Ok quote) × ((text_at quote.1 >>= λ key. byte_at 58 (skip_white key.1) >>= after_colon key.0) ≡ Err e)) → KeyBreaks e at
    by_quote (inl f) = let b = byte_breaks 34 at e f in no_quote b.0 b.1
    by_quote (inr q) = by_text q.0 (byte_sound 34 at q.0 q.1) (bind_err (text_at q.0.1) (λ key. byte_at 58 (skip_white key.1) >>= after_colon key.0) e q.2)

pub key_stops : (at : List ℕ) (e : Broken) → KeyBreaks e at → key_at at ≡ Err e
unfolding key_at
key_stops at e (no_quote b f) = rw (byte_refused 34 at b, f) refl
key_stops at e (in_key_string inside parts b) = rw (parts, string_stops inside e b) refl
key_stops at e (no_colon key behind s b f) = rw (s.opened, text_complete key at behind s, byte_refused 58 (skip_white behind) b, f) refl
