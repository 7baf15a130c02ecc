-- Escapes, read and spelled.
use Rattle.std.proofs.Common.{◌≡◌, ℕ, ◌+◌, ◌*◌, true, false, cond, ◌⊎◌, inl, inr, List, [], ◌∷◌, ◌++◌, Option, Some, None, Result, Ok, Err, refl, sym, ap, subst, ◌∙◌}
use Rattle.std.specs.Prelude.{◌==◌, encode_utf8}
use Rattle.std.specs.Char.{IsScalar}
use Rattle.std.proofs.lemmas.Bool.{eqb-true, false_from_ne_true}
use Rattle.jb_read.specs.declared.fault.Broken.{Broken}
use Rattle.jb_read.specs.declared.fault.FaultKind.TheVariants.{Syntax}
use Rattle.jb_read.specs.Reading.{◌>>=◌, broken, fails, byte_at}
use Rattle.jb_read.specs.Strings.{is_special, hex_value, hex_digit_at, hex_at, is_high, is_low, pair_char, low_at, pair_at, unicode_at, short_escape, escape_at}
use Rattle.jb_read.specs.Spelling.{SpellsUnit, SpellsCharacter, plain, short, unit, pair}
use Rattle.jb_read.proofs.Steps.{bind_ok, chosen, ok_is, broken_not_ok, byte_sound}

-- ---- hexadecimal digits

pub record Digit (d : ℕ) (at rest : List ℕ) : Type 0 where
  pub byte : ℕ
  pub spelled : at ≡ byte ∷ rest
  pub is_digit : hex_value byte ≡ Some d

digit_of : (o : Option ℕ) (b : ℕ) (at : List ℕ) (r : ℕ × List ℕ) → (elim o as (λ _. Result (ℕ × List ℕ) Broken) [ None ↦ fails Syntax (b ∷ at) | Some d ↦ Ok (d, at) ]) ≡ Ok r → (o ≡ Some r.0) × (at ≡ r.1)
digit_of None b at r e = absurd (broken_not_ok (broken Syntax (b ∷ at)) r e)
digit_of (Some d) b at r e = let same = ok_is (d, at) r e in (ap (λ (p : ℕ × List ℕ). Some p.0) same, ap (λ (p : ℕ × List ℕ). p.1) same)

pub digit_sound : (at : List ℕ) (r : ℕ × List ℕ) → hex_digit_at at ≡ Ok r → Digit r.0 at r.1
unfolding hex_digit_at
digit_sound [] r e = absurd (broken_not_ok (broken Syntax []) r e)
digit_sound (b ∷ at) r e = let d = digit_of (hex_value b) b at r e in record { byte = b; spelled = ap (λ (l : List ℕ). b ∷ l) d.1; is_digit = d.0 }

pub digit_complete : (b d : ℕ) (rest : List ℕ) → hex_value b ≡ Some d → hex_digit_at (b ∷ rest) ≡ Ok (d, rest)
unfolding hex_digit_at
digit_complete b d rest e = rw (e, hex_digit_at) refl

pub unit_sound : (at : List ℕ) (r : ℕ × List ℕ) → hex_at at ≡ Ok r → SpellsUnit r.0 (92 ∷ 117 ∷ at) r.1
unfolding hex_at
unit_sound at r e =
    let a = bind_ok (hex_digit_at at) (λ a. hex_digit_at a.1 >>= λ b. hex_digit_at b.1 >>= λ c. hex_digit_at c.1 >>= λ d. Ok (((a.0 * 16 + b.0) * 16 + c.0) * 16 + d.0, d.1)) r e in
    let b = bind_ok (hex_digit_at a.0.1) (λ b. hex_digit_at b.1 >>= λ c. hex_digit_at c.1 >>= λ d. Ok (((a.0.0 * 16 + b.0) * 16 + c.0) * 16 + d.0, d.1)) r a.2 in
    let c = bind_ok (hex_digit_at b.0.1) (λ c. hex_digit_at c.1 >>= λ d. Ok (((a.0.0 * 16 + b.0.0) * 16 + c.0) * 16 + d.0, d.1)) r b.2 in
    let d = bind_ok (hex_digit_at c.0.1) (λ d. Ok (((a.0.0 * 16 + b.0.0) * 16 + c.0.0) * 16 + d.0, d.1)) r c.2 in
    let same = ok_is (((a.0.0 * 16 + b.0.0) * 16 + c.0.0) * 16 + d.0.0, d.0.1) r d.2 in
    unit_from at r a.0 b.0 c.0 d.0 (digit_sound at a.0 a.1) (digit_sound a.0.1 b.0 b.1) (digit_sound b.0.1 c.0 c.1) (digit_sound c.0.1 d.0 d.1) (ap (λ (p : ℕ × List ℕ). p.0) same) (ap (λ (p : ℕ × List ℕ). p.1) same)
  where
    unit_from : (at : List ℕ) (r a b c d : ℕ × List ℕ) → Digit a.0 at a.1 → Digit b.0 a.1 b.1 → Digit c.0 b.1 c.1 → Digit d.0 c.1 d.1 → ((a.0 * 16 + b.0) * 16 + c.0) * 16 + d.0 ≡ r.0 → d.1 ≡ r.1 → SpellsUnit r.0 (92 ∷ 117 ∷ at) r.1
    unit_from at r a b c d p q s t value rest = record {
      first = p.byte;
      second = q.byte;
      third = s.byte;
      fourth = t.byte;
      spelled = ap (λ (l : List ℕ). 92 ∷ 117 ∷ l) (p.spelled ∙ ap (λ (l : List ℕ). p.byte ∷ l) (q.spelled ∙ ap (λ (l : List ℕ). q.byte ∷ l) (s.spelled ∙ ap (λ (l : List ℕ). s.byte ∷ l) (t.spelled ∙ ap (λ (l : List ℕ). t.byte ∷ l) rest))));
      a = a.0;
      b = b.0;
      c = c.0;
      d = d.0;
      first_is = p.is_digit;
      second_is = q.is_digit;
      third_is = s.is_digit;
      fourth_is = t.is_digit;
      unit_is = sym value;
    }

tails : (a b c d : ℕ) (x y : List ℕ) → a ∷ b ∷ x ≡ c ∷ d ∷ y → x ≡ y
tails a b c d x y e = cc

pub unit_complete : (u : ℕ) (at rest : List ℕ) → SpellsUnit u (92 ∷ 117 ∷ at) rest → hex_at at ≡ Ok (u, rest)
unfolding hex_at
unit_complete u at rest s =
    let front : at ≡ s.first ∷ s.second ∷ s.third ∷ s.fourth ∷ rest = tails 92 117 92 117 at (s.first ∷ s.second ∷ s.third ∷ s.fourth ∷ rest) s.spelled in
    rw (front, digit_complete s.first s.a (s.second ∷ s.third ∷ s.fourth ∷ rest) s.first_is, digit_complete s.second s.b (s.third ∷ s.fourth ∷ rest) s.second_is, digit_complete s.third s.c (s.fourth ∷ rest) s.third_is, digit_complete s.fourth s.d rest s.fourth_is, s.unit_is) refl

-- ---- surrogates and the other escapes

low_sound : (at : List ℕ) (r : ℕ × List ℕ) → low_at at ≡ Ok r → SpellsUnit r.0 at r.1 × (is_low r.0 ≡ true)
unfolding low_at
low_sound at r e =
    let a = bind_ok (byte_at 92 at) (λ backslash. byte_at 117 backslash.1 >>= λ letter. hex_at letter.1 >>= λ unit. cond (is_low unit.0) (Ok unit) (fails Syntax at)) r e in
    let b = bind_ok (byte_at 117 a.0.1) (λ letter. hex_at letter.1 >>= λ unit. cond (is_low unit.0) (Ok unit) (fails Syntax at)) r a.2 in
    let c = bind_ok (hex_at b.0.1) (λ unit. cond (is_low unit.0) (Ok unit) (fails Syntax at)) r b.2 in
    let front : at ≡ 92 ∷ 117 ∷ b.0.1 = byte_sound 92 at a.0 a.1 ∙ ap (λ (l : List ℕ). 92 ∷ l) (byte_sound 117 a.0.1 b.0 b.1) in
    elim (chosen (is_low c.0.0) (Ok c.0) (fails Syntax at) (Ok r) c.2) [
      | inl p ↦ (let same = ok_is c.0 r p.1 in
          subst (λ (x : ℕ × List ℕ). SpellsUnit x.0 at x.1 × (is_low x.0 ≡ true)) same (subst (λ (l : List ℕ). SpellsUnit c.0.0 l c.0.1) (sym front) (unit_sound b.0.1 c.0 c.1), p.0))
      | inr p ↦ absurd (broken_not_ok (broken Syntax at) r p.1)
    ]

record Pair (high c : ℕ) (at rest : List ℕ) : Type 0 where
  low : ℕ
  spelled : SpellsUnit low at rest
  is_one : is_low low ≡ true
  makes : c ≡ pair_char high low

pair_of : (own : Broken) (high : ℕ) (at : List ℕ) (l : Result (ℕ × List ℕ) Broken) (r : ℕ × List ℕ) → ((x : ℕ × List ℕ) → l ≡ Ok x → SpellsUnit x.0 at x.1 × (is_low x.0 ≡ true))
    → (elim l as (λ _. Result (ℕ × List ℕ) Broken) [ Ok low ↦ Ok (pair_char high low.0, low.1) | Err e ↦ cond (e.left == 0) (Err e) (Err own) ]) ≡ Ok r → Pair high r.0 at r.1
pair_of own high at (Ok low) r sound e =
    let s = sound low refl in
    let same = ok_is (pair_char high low.0, low.1) r e in
    record { low = low.0; spelled = subst (λ (l : List ℕ). SpellsUnit low.0 at l) (ap (λ (p : ℕ × List ℕ). p.1) same) s.0; is_one = s.1; makes = sym (ap (λ (p : ℕ × List ℕ). p.0) same) }
pair_of own high at (Err d) r sound e = elim (chosen (d.left == 0) (Err d) (Err own) (Ok r) e) [
  | inl p ↦ absurd (broken_not_ok d r p.1)
  | inr p ↦ absurd (broken_not_ok own r p.1)
]

pair_sound : (own : Broken) (high : ℕ) (at : List ℕ) (r : ℕ × List ℕ) → pair_at own high at ≡ Ok r → Pair high r.0 at r.1
unfolding pair_at
pair_sound own high at r e = pair_of own high at (low_at at) r (λ x h. low_sound at x h) e

unicode_sound : (own : Broken) (at : List ℕ) (r : ℕ × List ℕ) → unicode_at own at ≡ Ok r → SpellsCharacter r.0 (92 ∷ 117 ∷ at) r.1
unfolding unicode_at
unicode_sound own at r e =
    let a = bind_ok (hex_at at) (λ unit. cond (is_high unit.0) (pair_at own unit.0 unit.1) (cond (is_low unit.0) (Err own) (Ok unit))) r e in
    let u = unit_sound at a.0 a.1 in
    elim (chosen (is_high a.0.0) (pair_at own a.0.0 a.0.1) (cond (is_low a.0.0) (Err own) (Ok a.0)) (Ok r) a.2) [
      | inl p ↦ (let q = pair_sound own a.0.0 a.0.1 r p.1 in pair a.0.0 q.low a.0.1 u p.0 q.spelled q.is_one q.makes)
      | inr p ↦ (elim (chosen (is_low a.0.0) (Err own) (Ok a.0) (Ok r) p.1) [
        | inl q ↦ absurd (broken_not_ok own r q.1)
        | inr q ↦ subst (λ (x : ℕ × List ℕ). SpellsCharacter x.0 (92 ∷ 117 ∷ at) x.1) (ok_is a.0 r q.1) (unit u p.0 q.0)
      ])
    ]

pub escape_sound : (own : Broken) (at : List ℕ) (r : ℕ × List ℕ) → escape_at own at ≡ Ok r → SpellsCharacter r.0 (92 ∷ at) r.1
unfolding escape_at
escape_sound own [] r e = absurd (broken_not_ok (broken Syntax []) r e)
escape_sound own (b ∷ at) r e =
    elim (chosen (b == 117) (unicode_at own at) (elim (short_escape b) as (λ _. Result (ℕ × List ℕ) Broken) [ None ↦ fails Syntax (b ∷ at) | Some c ↦ Ok (c, at) ]) (Ok r) e) [
      | inl p ↦ (let same : b ≡ 117 = eqb-true b 117 p.0 in subst (λ (k : ℕ). SpellsCharacter r.0 (92 ∷ k ∷ at) r.1) (sym same) (unicode_sound own at r p.1))
      | inr p ↦ (let d = digit_of (short_escape b) b at r p.1 in short b d.0 (ap (λ (l : List ℕ). 92 ∷ b ∷ l) d.1))
    ]

-- ---- what is spelled is read

pub front_unit : (u : ℕ) (at rest : List ℕ) → SpellsUnit u at rest → (digits : List ℕ) × (at ≡ 92 ∷ 117 ∷ digits) × SpellsUnit u (92 ∷ 117 ∷ digits) rest
front_unit u at rest s = (s.first ∷ s.second ∷ s.third ∷ s.fourth ∷ rest, s.spelled, subst (λ (l : List ℕ). SpellsUnit u l rest) s.spelled s)

pub low_complete : (u : ℕ) (at rest : List ℕ) → SpellsUnit u at rest → is_low u ≡ true → low_at at ≡ Ok (u, rest)
unfolding low_at
low_complete u at rest s low = let f = front_unit u at rest s in rw (f.1, unit_complete u f.0 rest f.2, low) refl

pair_complete : (own : Broken) (high low : ℕ) (between rest : List ℕ) → SpellsUnit low between rest → is_low low ≡ true → pair_at own high between ≡ Ok (pair_char high low, rest)
unfolding pair_at
pair_complete own high low between rest s is = rw (low_complete low between rest s is, pair_at) refl

unicode_unit : (own : Broken) (u : ℕ) (at rest : List ℕ) → SpellsUnit u (92 ∷ 117 ∷ at) rest → is_high u ≡ false → is_low u ≡ false → unicode_at own at ≡ Ok (u, rest)
unfolding unicode_at
unicode_unit own u at rest s high low = rw (unit_complete u at rest s, high, low) refl

unicode_pair : (own : Broken) (high low : ℕ) (at between rest : List ℕ) → SpellsUnit high (92 ∷ 117 ∷ at) between → is_high high ≡ true → SpellsUnit low between rest → is_low low ≡ true → unicode_at own at ≡ Ok (pair_char high low, rest)
unfolding unicode_at
unicode_pair own high low at between rest s is t is_one = rw (unit_complete high at between s, is, pair_complete own high low between rest t is_one) refl

pub escape_of_u : (own : Broken) (at : List ℕ) → escape_at own (117 ∷ at) ≡ unicode_at own at
unfolding escape_at
escape_of_u own at = refl

-- what reads an escape, from the list that it stands in
pub record Escape (c : ℕ) (at rest : List ℕ) : Type 0 where
  pub inside : List ℕ
  pub parts : at ≡ 92 ∷ inside
  pub read : (own : Broken) → escape_at own inside ≡ Ok (c, rest)

no_u : (letter c : ℕ) → short_escape letter ≡ Some c → (letter == 117) ≡ false
no_u letter c e = false_from_ne_true (letter == 117) (λ u. absurd_u (eqb-true letter 117 u))
  where
    none_not_some : (x : ℕ) → None ≡ Some x → ⊥
    none_not_some x h = cc

    absurd_u : letter ≡ 117 → ⊥
    absurd_u same = none_not_some c (sym (ap short_escape same) ∙ e)

short_complete : (letter c : ℕ) (at rest : List ℕ) → short_escape letter ≡ Some c → at ≡ 92 ∷ letter ∷ rest → Escape c at rest
unfolding escape_at
short_complete letter c at rest e parts = record { inside = letter ∷ rest; parts = parts; read = λ own. rw (no_u letter c e, e) refl }

unit_escape : (c : ℕ) (at rest : List ℕ) → SpellsUnit c at rest → is_high c ≡ false → is_low c ≡ false → Escape c at rest
unit_escape c at rest s high low = let f = front_unit c at rest s in record { inside = 117 ∷ f.0; parts = f.1; read = λ own. escape_of_u own f.0 ∙ unicode_unit own c f.0 rest f.2 high low }

pair_escape : (high low c : ℕ) (at between rest : List ℕ) → SpellsUnit high at between → is_high high ≡ true → SpellsUnit low between rest → is_low low ≡ true → c ≡ pair_char high low → Escape c at rest
pair_escape high low c at between rest s is t is_one makes = let f = front_unit high at between s in
    record { inside = 117 ∷ f.0; parts = f.1; read = λ own. escape_of_u own f.0 ∙ unicode_pair own high low f.0 between rest f.2 is t is_one ∙ ap (λ (k : ℕ). Ok (k, rest)) (sym makes) }

-- a character that is spelled is plain, or an escape that is read
pub character_cases : (c : ℕ) (at rest : List ℕ) → SpellsCharacter c at rest → (IsScalar c × (is_special c ≡ false) × (at ≡ encode_utf8 c ++ rest)) ⊎ Escape c at rest
character_cases c at rest (plain scalar special spelled) = inl (scalar, special, spelled)
character_cases c at rest (short letter e spelled) = inr (short_complete letter c at rest e spelled)
character_cases c at rest (unit s high low) = inr (unit_escape c at rest s high low)
character_cases c at rest (pair high low between s is t is_one makes) = inr (pair_escape high low c at between rest s is t is_one makes)
