-- Where an escape breaks: what is refused is broken, and what is broken is refused.
use Rattle.std.proofs.Common.{◌≡◌, ℕ, suc, ◌+◌, ◌*◌, ◌<◌, true, false, cond, ◌⊎◌, inl, inr, List, [], ◌∷◌, ◌++◌, length, Option, Some, None, Result, Ok, Err, refl, sym, ap, subst, ◌∙◌, arith}
use Rattle.std.specs.Prelude.{◌==◌, is_some}
use Rattle.std.specs.List.{list_all}
use Rattle.std.proofs.lemmas.Bool.{eqb-true, ne_eqb, and_parts, and_from}
use Rattle.jb_read.specs.declared.fault.Broken.{Broken}
use Rattle.jb_read.specs.declared.fault.FaultKind.TheVariants.{Syntax}
use Rattle.jb_read.specs.Bytes.{begins}
use Rattle.jb_read.specs.Reading.{◌>>=◌, broken, fails, byte_at}
use Rattle.jb_read.specs.Strings.{hex_value, hex_digit_at, hex_at, is_high, is_low, pair_char, low_at, pair_at, unicode_at, short_escape, escape_at}
use Rattle.jb_read.specs.Spelling.{SpellsUnit}
use Rattle.jb_read.specs.EscapeFaults.{is_hex, HexBreaks, NoLow, no_backslash, no_letter, no_unit, not_low, EscapeBreaks, ended, wrong_letter, in_unit, lone_low, lone_high, cut_pair}
use Rattle.jb_read.proofs.Steps.{chosen, byte_sound}
use Rattle.jb_read.proofs.Escapes.{digit_sound, digit_complete, unit_sound, unit_complete, front_unit, escape_of_u}
use Rattle.jb_read.proofs.Stopped.{same_stop, bind_err, byte_breaks, byte_refused}

-- ---- hexadecimal digits

digit_breaks : (at : List ℕ) (e : Broken) → hex_digit_at at ≡ Err e → (begins is_hex at ≡ false) × (e ≡ broken Syntax at)
unfolding hex_digit_at
digit_breaks [] e h = (refl, same_stop (broken Syntax []) e h)
digit_breaks (b ∷ at) e h = by_value (hex_value b) h
  where
    by_value : (o : Option ℕ) → (elim o as (λ _. Result (ℕ × List ℕ) Broken) [ None ↦ fails Syntax (b ∷ at) | Some d ↦ Ok (d, at) ]) ≡ Err e → (is_some o ≡ false) × (e ≡ broken Syntax (b ∷ at))
    by_value None h = (refl, same_stop (broken Syntax (b ∷ at)) e h)
    by_value (Some d) h = absurd cc

digit_refused : (at : List ℕ) → begins is_hex at ≡ false → hex_digit_at at ≡ Err (broken Syntax at)
unfolding hex_digit_at
digit_refused [] h = refl
digit_refused (b ∷ at) h = by_value (hex_value b) h
  where
    by_value : (o : Option ℕ) → is_some o ≡ false → (elim o as (λ _. Result (ℕ × List ℕ) Broken) [ None ↦ fails Syntax (b ∷ at) | Some d ↦ Ok (d, at) ]) ≡ Err (broken Syntax (b ∷ at))
    by_value None h = refl
    by_value (Some d) h = absurd cc

hex_stops : (n : ℕ) (at : List ℕ) (e : Broken) → hex_digit_at at ≡ Err e → HexBreaks (suc n) e at
hex_stops n at e h = let d = digit_breaks at e h in record { front = []; behind = at; spelled = refl; digits = refl; few = omega arith; no_digit = d.0; fault_is = d.1 }

hex_more : (n : ℕ) (at : List ℕ) (e : Broken) (d : ℕ × List ℕ) → hex_digit_at at ≡ Ok d → HexBreaks n e d.1 → HexBreaks (suc n) e at
hex_more n at e d h more =
    let b = digit_sound at d h in
    let hex : is_hex b.byte ≡ true = ap is_some b.is_digit in
    record {
      front = b.byte ∷ more.front;
      behind = more.behind;
      spelled = b.spelled ∙ ap (λ (l : List ℕ). b.byte ∷ l) more.spelled;
      digits = and_from (is_hex b.byte) (list_all is_hex more.front) hex more.digits;
      few = omega (arith, more.few);
      no_digit = more.no_digit;
      fault_is = more.fault_is;
    }

abbrev fourth : ℕ → ℕ → ℕ → ℕ × List ℕ → Result (ℕ × List ℕ) Broken
fourth a b c d = Ok (((a * 16 + b) * 16 + c) * 16 + d.0, d.1)

abbrev third : ℕ → ℕ → ℕ × List ℕ → Result (ℕ × List ℕ) Broken
third a b c = hex_digit_at c.1 >>= fourth a b c.0

abbrev second : ℕ → ℕ × List ℕ → Result (ℕ × List ℕ) Broken
second a b = hex_digit_at b.1 >>= third a b.0

abbrev first_of : ℕ × List ℕ → Result (ℕ × List ℕ) Broken
first_of a = hex_digit_at a.1 >>= second a.0

hex_breaks : (at : List ℕ) (e : Broken) → hex_at at ≡ Err e → HexBreaks 4 e at
unfolding hex_at
hex_breaks at e h = by_first (bind_err (hex_digit_at at) first_of e h)
  where
    by_fourth : (a b c : ℕ × List ℕ) → (hex_digit_at c.1 ≡ Err e) ⊎ ((d : ℕ × List ℕ) × (hex_digit_at c.1 ≡ Ok d) × (fourth a.0 b.0 c.0 d ≡ Err e)) → HexBreaks 1 e c.1
    by_fourth a b c (inl f) = hex_stops 0 c.1 e f
    by_fourth a b c (inr d) = absurd cc

    by_third : (a b : ℕ × List ℕ) → (hex_digit_at b.1 ≡ Err e) ⊎ ((c : ℕ × List ℕ) × (hex_digit_at b.1 ≡ Ok c) × (third a.0 b.0 c ≡ Err e)) → HexBreaks 2 e b.1
    by_third a b (inl f) = hex_stops 1 b.1 e f
    by_third a b (inr c) = hex_more 1 b.1 e c.0 c.1 (by_fourth a b c.0 (bind_err (hex_digit_at c.0.1) (fourth a.0 b.0 c.0.0) e c.2))

    by_second : (a : ℕ × List ℕ) → (hex_digit_at a.1 ≡ Err e) ⊎ ((b : ℕ × List ℕ) × (hex_digit_at a.1 ≡ Ok b) × (second a.0 b ≡ Err e)) → HexBreaks 3 e a.1
    by_second a (inl f) = hex_stops 2 a.1 e f
    by_second a (inr b) = hex_more 2 a.1 e b.0 b.1 (by_third a b.0 (bind_err (hex_digit_at b.0.1) (third a.0 b.0.0) e b.2))

    by_first : (hex_digit_at at ≡ Err e) ⊎ ((a : ℕ × List ℕ) × (hex_digit_at at ≡ Ok a) × (first_of a ≡ Err e)) → HexBreaks 4 e at
    by_first (inl f) = hex_stops 3 at e f
    by_first (inr a) = hex_more 3 at e a.0 a.1 (by_second a.0 (bind_err (hex_digit_at a.0.1) (second a.0.0) e a.2))

some_digit : (b : ℕ) → is_hex b ≡ true → (d : ℕ) × (hex_value b ≡ Some d)
some_digit b h = by_value (hex_value b) refl h
  where
    by_value : (o : Option ℕ) → hex_value b ≡ o → is_some o ≡ true → (d : ℕ) × (hex_value b ≡ Some d)
    by_value None e h = absurd cc
    by_value (Some d) e h = (d, e)

digit_read : (b : ℕ) (rest : List ℕ) → is_hex b ≡ true → (d : ℕ) × (hex_digit_at (b ∷ rest) ≡ Ok (d, rest))
digit_read b rest h = let d = some_digit b h in (d.0, digit_complete b d.0 rest d.1)

hex_refused : (at : List ℕ) (e : Broken) → HexBreaks 4 e at → hex_at at ≡ Err e
unfolding hex_at
hex_refused at e h = rw (h.spelled, h.fault_is) (by_front h.front h.digits h.few)
  where
    stop : hex_digit_at h.behind ≡ Err (broken Syntax h.behind)
    stop = digit_refused h.behind h.no_digit

    by_front : (front : List ℕ) → list_all is_hex front ≡ true → length front < 4 → hex_at (front ++ h.behind) ≡ Err (broken Syntax h.behind)
    by_front [] digits few = rw stop refl
    by_front (a ∷ []) digits few = let x = digit_read a h.behind (and_parts (is_hex a) true digits).0 in rw (x.1, stop) refl
    by_front (a ∷ b ∷ []) digits few =
        let p = and_parts (is_hex a) _ digits in
        let x = digit_read a (b ∷ h.behind) p.0 in
        let y = digit_read b h.behind (and_parts (is_hex b) true p.1).0 in
        rw (x.1, y.1, stop) refl
    by_front (a ∷ b ∷ c ∷ []) digits few =
        let p = and_parts (is_hex a) _ digits in
        let q = and_parts (is_hex b) _ p.1 in
        let x = digit_read a (b ∷ c ∷ h.behind) p.0 in
        let y = digit_read b (c ∷ h.behind) q.0 in
        let z = digit_read c h.behind (and_parts (is_hex c) true q.1).0 in
        rw (x.1, y.1, z.1, stop) refl
    by_front (a ∷ b ∷ c ∷ d ∷ front) digits few = absurd (omega arith)

-- ---- surrogates

record LowBreaks (d : Broken) (at : List ℕ) : Type 0 where
  place : List ℕ
  shows : NoLow place at
  fault_is : d ≡ broken Syntax place

abbrev if_low : List ℕ → ℕ × List ℕ → Result (ℕ × List ℕ) Broken
if_low at unit = cond (is_low unit.0) (Ok unit) (fails Syntax at)

low_breaks : (at : List ℕ) (d : Broken) → low_at at ≡ Err d → LowBreaks d at
unfolding low_at
low_breaks at d h = by_backslash (bind_err (byte_at 92 at) (λ backslash. byte_at 117 backslash.1 >>= λ letter. hex_at letter.1 >>= if_low at) d h)
  where
    by_low : (inside : List ℕ) → at ≡ 92 ∷ 117 ∷ inside → (unit : ℕ × List ℕ) → hex_at inside ≡ Ok unit → if_low at unit ≡ Err d → LowBreaks d at
    by_low inside parts unit read h = elim (chosen (is_low unit.0) (Ok unit) (fails Syntax at) (Err d) h) [
      | inl p ↦ absurd cc
      | inr p ↦ record { place = at; shows = not_low unit.0 unit.1 (subst (λ (l : List ℕ). SpellsUnit unit.0 l unit.1) (sym parts) (unit_sound inside unit read)) p.0 refl; fault_is = same_stop (broken Syntax at) d p.1 }
    ]

    by_unit : (inside : List ℕ) → at ≡ 92 ∷ 117 ∷ inside → (hex_at inside ≡ Err d) ⊎ ((unit : ℕ × List ℕ) × (hex_at inside ≡ Ok unit) × (if_low at unit ≡ Err d)) → LowBreaks d at
    by_unit inside parts (inl f) = let x = hex_breaks inside d f in record { place = x.behind; shows = no_unit inside parts (record { front = x.front; behind = x.behind; spelled = x.spelled; digits = x.digits; few = x.few; no_digit = x.no_digit; fault_is = refl }); fault_is = x.fault_is }
    by_unit inside parts (inr u) = by_low inside parts u.0 u.1 u.2

    by_letter : (inside : List ℕ) → at ≡ 92 ∷ inside → (byte_at 117 inside ≡ Err d) ⊎ ((letter : Unit {0} × List ℕ) × (byte_at 117 inside ≡ Ok letter) × ((hex_at letter.1 >>= if_low at) ≡ Err d)) → LowBreaks d at
    by_letter inside parts (inl f) = let b = byte_breaks 117 inside d f in record { place = inside; shows = no_letter inside parts b.0 refl; fault_is = b.1 }
    by_letter inside parts (inr l) = by_unit l.0.1 (parts ∙ ap (λ (k : List ℕ). 92 ∷ k) (byte_sound 117 inside l.0 l.1)) (bind_err (hex_at l.0.1) (if_low at) d l.2)

    by_backslash : (byte_at 92 at ≡ Err d) ⊎ ((backslash : Unit {0} × List ℕ) × (byte_at 92 at ≡ Ok backslash) × ((byte_at 117 backslash.1 >>= λ letter. hex_at letter.1 >>= if_low at) ≡ Err d)) → LowBreaks d at
    by_backslash (inl f) = let b = byte_breaks 92 at d f in record { place = at; shows = no_backslash b.0 refl; fault_is = b.1 }
    by_backslash (inr b) = by_letter b.0.1 (byte_sound 92 at b.0 b.1) (bind_err (byte_at 117 b.0.1) (λ letter. hex_at letter.1 >>= if_low at) d b.2)

low_refused : (place at : List ℕ) → NoLow place at → low_at at ≡ Err (broken Syntax place)
unfolding low_at
low_refused place at (no_backslash b p) = rw (p, byte_refused 92 at b) refl
low_refused place at (no_letter inside parts b p) = rw (p, parts, byte_refused 117 inside b) refl
low_refused place at (no_unit inside parts h) = rw (parts, hex_refused inside (broken Syntax place) h) refl
low_refused place at (not_low unit rest s n p) = let f = front_unit unit at rest s in rw (p, f.1, unit_complete unit f.0 rest f.2, n) refl

nothing_left : (place : List ℕ) → (length place == 0) ≡ true → place ≡ []
nothing_left [] e = refl
nothing_left (b ∷ place) e = let none : length (b ∷ place) ≡ 0 = eqb-true _ 0 e in absurd (omega (arith, none))

something_left : (place : List ℕ) → (place ≡ [] → ⊥) → (length place == 0) ≡ false
something_left [] n = absurd (n refl)
something_left (b ∷ place) n = ne_eqb (length (b ∷ place)) 0 (λ same. omega (arith, same))

is_something : (place : List ℕ) → (length place == 0) ≡ false → place ≡ [] → ⊥
is_something place e none = let is : true ≡ false = ap (λ (l : List ℕ). length l == 0) (sym none) ∙ e in cc

-- ---- escapes

unit_of_u : (own : Broken) (at : List ℕ) (unit : ℕ × List ℕ) → hex_at at ≡ Ok unit → unicode_at own at ≡ cond (is_high unit.0) (pair_at own unit.0 unit.1) (cond (is_low unit.0) (Err own) (Ok unit))
unfolding unicode_at
unit_of_u own at unit e = rw e refl

pair_breaks : (at : List ℕ) (e : Broken) (high : ℕ) (between : List ℕ) → SpellsUnit high at between → is_high high ≡ true → pair_at (broken Syntax at) high between ≡ Err e → EscapeBreaks e at
unfolding pair_at
pair_breaks at e high between s is h = by_low (low_at between) refl h
  where
    by_low : (r : Result (ℕ × List ℕ) Broken) → low_at between ≡ r → (elim r as (λ _. Result (ℕ × List ℕ) Broken) [ Ok low ↦ Ok (pair_char high low.0, low.1) | Err d ↦ cond (d.left == 0) (Err d) (Err (broken Syntax at)) ]) ≡ Err e → EscapeBreaks e at
    by_low (Ok low) read h = absurd cc
    by_low (Err d) read h =
        let l = low_breaks between d read in
        let left : d.left ≡ length l.place = ap (λ (x : Broken). x.left) l.fault_is in
        elim (chosen (d.left == 0) (Err d) (Err (broken Syntax at)) (Err e) h) [
          | inl p ↦ (let none : l.place ≡ [] = nothing_left l.place (ap (λ (n : ℕ). n == 0) (sym left) ∙ p.0) in
              cut_pair high between s is (subst (λ (k : List ℕ). NoLow k between) none l.shows) (same_stop d e p.1 ∙ l.fault_is ∙ ap (λ (k : List ℕ). broken Syntax k) none))
          | inr p ↦ lone_high high between l.place s is l.shows (is_something l.place (ap (λ (n : ℕ). n == 0) (sym left) ∙ p.0)) (same_stop (broken Syntax at) e p.1)
        ]

unicode_breaks : (inside : List ℕ) (e : Broken) → unicode_at (broken Syntax (92 ∷ 117 ∷ inside)) inside ≡ Err e → EscapeBreaks e (92 ∷ 117 ∷ inside)
unfolding unicode_at
unicode_breaks inside e h = by_unit (bind_err (hex_at inside) (λ unit. cond (is_high unit.0) (pair_at (broken Syntax (92 ∷ 117 ∷ inside)) unit.0 unit.1) (cond (is_low unit.0) (Err (broken Syntax (92 ∷ 117 ∷ inside))) (Ok unit))) e h)
  where
    by_kind : (unit : ℕ × List ℕ) → hex_at inside ≡ Ok unit → cond (is_high unit.0) (pair_at (broken Syntax (92 ∷ 117 ∷ inside)) unit.0 unit.1) (cond (is_low unit.0) (Err (broken Syntax (92 ∷ 117 ∷ inside))) (Ok unit)) ≡ Err e → EscapeBreaks e (92 ∷ 117 ∷ inside)
    by_kind unit read h = elim (chosen (is_high unit.0) (pair_at (broken Syntax (92 ∷ 117 ∷ inside)) unit.0 unit.1) (cond (is_low unit.0) (Err (broken Syntax (92 ∷ 117 ∷ inside))) (Ok unit)) (Err e) h) [
      | inl p ↦ pair_breaks (92 ∷ 117 ∷ inside) e unit.0 unit.1 (unit_sound inside unit read) p.0 p.1
      | inr p ↦ (elim (chosen (is_low unit.0) (Err (broken Syntax (92 ∷ 117 ∷ inside))) (Ok unit) (Err e) p.1) [
        | inl q ↦ lone_low unit.0 unit.1 (unit_sound inside unit read) p.0 q.0 (same_stop (broken Syntax (92 ∷ 117 ∷ inside)) e q.1)
        | inr q ↦ absurd cc
      ])
    ]

    by_unit : (hex_at inside ≡ Err e) ⊎ ((unit : ℕ × List ℕ) × (hex_at inside ≡ Ok unit) × (cond (is_high unit.0) (pair_at (broken Syntax (92 ∷ 117 ∷ inside)) unit.0 unit.1) (cond (is_low unit.0) (Err (broken Syntax (92 ∷ 117 ∷ inside))) (Ok unit)) ≡ Err e)) → EscapeBreaks e (92 ∷ 117 ∷ inside)
    by_unit (inl f) = in_unit inside refl (hex_breaks inside e f)
    by_unit (inr u) = by_kind u.0 u.1 u.2

pub escape_breaks : (inside : List ℕ) (e : Broken) → escape_at (broken Syntax (92 ∷ inside)) inside ≡ Err e → EscapeBreaks e (92 ∷ inside)
unfolding escape_at
escape_breaks [] e h = ended refl (same_stop (broken Syntax []) e h)
escape_breaks (b ∷ at) e h = elim (chosen (b == 117) (unicode_at (broken Syntax (92 ∷ b ∷ at)) at) (elim (short_escape b) as (λ _. Result (ℕ × List ℕ) Broken) [ None ↦ fails Syntax (b ∷ at) | Some c ↦ Ok (c, at) ]) (Err e) h) [
  | inl p ↦ (let same : b ≡ 117 = eqb-true b 117 p.0 in subst (λ (k : ℕ). EscapeBreaks e (92 ∷ k ∷ at)) (sym same) (unicode_breaks at e (ap (λ (k : ℕ). unicode_at (broken Syntax (92 ∷ k ∷ at)) at) (sym same) ∙ p.1)))
  | inr p ↦ by_letter p.0 (short_escape b) refl p.1
]
  where
    by_letter : (b == 117) ≡ false → (o : Option ℕ) → short_escape b ≡ o → (elim o as (λ _. Result (ℕ × List ℕ) Broken) [ None ↦ fails Syntax (b ∷ at) | Some c ↦ Ok (c, at) ]) ≡ Err e → EscapeBreaks e (92 ∷ b ∷ at)
    by_letter u None s h = wrong_letter b at refl u s (same_stop (broken Syntax (b ∷ at)) e h)
    by_letter u (Some c) s h = absurd cc

pair_refused : (own : Broken) (high : ℕ) (between place : List ℕ) → NoLow place between → pair_at own high between ≡ cond (length place == 0) (Err (broken Syntax place)) (Err own)
unfolding pair_at
pair_refused own high between place n = rw (low_refused place between n, pair_at) refl

high_refused : (own : Broken) (high : ℕ) (at between place : List ℕ) → SpellsUnit high (92 ∷ 117 ∷ at) between → is_high high ≡ true → NoLow place between → escape_at own (117 ∷ at) ≡ cond (length place == 0) (Err (broken Syntax place)) (Err own)
high_refused own high at between place s is n = escape_of_u own at ∙ unit_of_u own at (high, between) (unit_complete high at between s) ∙ rw is (pair_refused own high between place n)

wrong_stops : (own : Broken) (letter : ℕ) (rest : List ℕ) → (letter == 117) ≡ false → short_escape letter ≡ None → escape_at own (letter ∷ rest) ≡ Err (broken Syntax (letter ∷ rest))
unfolding escape_at
wrong_stops own letter rest u s = rw (u, s) refl

end_stops : (own : Broken) → escape_at own [] ≡ Err (broken Syntax [])
unfolding escape_at
end_stops own = refl

unit_stops : (own : Broken) (digits : List ℕ) (e : Broken) → hex_at digits ≡ Err e → escape_at own (117 ∷ digits) ≡ Err e
unfolding unicode_at
unit_stops own digits e h = escape_of_u own digits ∙ rw h refl

tail_is : (x y : List ℕ) → 92 ∷ x ≡ 92 ∷ y → x ≡ y
tail_is x y e = cc

pub escape_stops : (inside : List ℕ) (e : Broken) → EscapeBreaks e (92 ∷ inside) → escape_at (broken Syntax (92 ∷ inside)) inside ≡ Err e
escape_stops inside e b = by_case (92 ∷ inside) refl b
  where
    by_case : (at : List ℕ) → at ≡ 92 ∷ inside → EscapeBreaks e at → escape_at (broken Syntax (92 ∷ inside)) inside ≡ Err e
    by_case at is (ended parts f) = rw (tail_is inside [] (sym is ∙ parts), f) (end_stops (broken Syntax (92 ∷ [])))
    by_case at is (wrong_letter letter rest parts u s f) = rw (tail_is inside (letter ∷ rest) (sym is ∙ parts), f) (wrong_stops (broken Syntax (92 ∷ letter ∷ rest)) letter rest u s)
    by_case at is (in_unit digits parts h) = rw (tail_is inside (117 ∷ digits) (sym is ∙ parts)) (unit_stops (broken Syntax (92 ∷ 117 ∷ digits)) digits e (hex_refused digits e h))
    by_case at is (lone_low unit rest s h l f) =
        let u = front_unit unit at rest s in
        let parts : inside ≡ 117 ∷ u.0 = tail_is inside (117 ∷ u.0) (sym is ∙ u.1) in
        rw (f, is, parts) (escape_of_u (broken Syntax (92 ∷ 117 ∷ u.0)) u.0 ∙ unit_of_u (broken Syntax (92 ∷ 117 ∷ u.0)) u.0 (unit, rest) (unit_complete unit u.0 rest u.2) ∙ rw (h, l) refl)
    by_case at is (lone_high high between place s h n some f) =
        let u = front_unit high at between s in
        let parts : inside ≡ 117 ∷ u.0 = tail_is inside (117 ∷ u.0) (sym is ∙ u.1) in
        let left = something_left place some in
        rw (f, is, parts) (high_refused (broken Syntax (92 ∷ 117 ∷ u.0)) high u.0 between place u.2 h n ∙ rw left refl)
    by_case at is (cut_pair high between s h n f) =
        let u = front_unit high at between s in
        let parts : inside ≡ 117 ∷ u.0 = tail_is inside (117 ∷ u.0) (sym is ∙ u.1) in
        rw (f, parts) (high_refused (broken Syntax (92 ∷ 117 ∷ u.0)) high u.0 between [] u.2 h n)
