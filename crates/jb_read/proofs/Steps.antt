-- Steps of a reading that went on.
use Rattle.std.proofs.Common.{◌≡◌, ℕ, Bool, true, false, cond, ◌⊎◌, inl, inr, List, [], ◌∷◌, ◌++◌, drop, Result, Ok, Err, refl, sym, ap, ◌∙◌}
use Rattle.std.specs.Prelude.{◌==◌}
use Rattle.std.proofs.lemmas.Bool.{eqb-true, eq-eqb}
use Rattle.jb_read.specs.declared.fault.Broken.{Broken}
use Rattle.jb_read.specs.declared.fault.FaultKind.TheVariants.{Syntax}
use Rattle.jb_read.specs.Bytes.{skip_white}
use Rattle.jb_read.specs.Reading.{◌>>=◌, broken, fails, byte_at, word_at}
use Rattle.jb_read.specs.Values.{begins_with, next_at}

pub bind_ok : {A B : Type 0} (r : Result A Broken) (f : A → Result B Broken) (y : B) → (r >>= f) ≡ Ok y → (x : A) × (r ≡ Ok x) × (f x ≡ Ok y)
bind_ok (Ok x) f y e = (x, refl, e)
bind_ok (Err d) f y e = absurd cc

pub chosen : {X : Type 0} (b : Bool) (x y z : X) → cond b x y ≡ z → ((b ≡ true) × (x ≡ z)) ⊎ ((b ≡ false) × (y ≡ z))
chosen true x y z e = inl (refl, e)
chosen false x y z e = inr (refl, e)

abbrev done : {A : Type 0} → A → Result A Broken
done x = Ok x

pub ok_is : {A : Type 0} (x y : A) → done x ≡ done y → x ≡ y
ok_is x y e = cc

pub broken_not_ok : {A : Type 0} (e : Broken) (x : A) → Err e ≡ done x → ⊥
broken_not_ok e x h = cc

-- ---- bytes and words

pub byte_sound : (b : ℕ) (at : List ℕ) (r : Unit {0} × List ℕ) → byte_at b at ≡ Ok r → at ≡ b ∷ r.1
byte_sound b [] r e = absurd cc
byte_sound b (c ∷ at) r e =
    elim (chosen (c == b) (Ok (tt, at)) (fails Syntax (c ∷ at)) (Ok r) e) [
      | inl p ↦ (let same : c ≡ b = eqb-true c b p.0 in let rest : at ≡ r.1 = ap (λ (p : Unit {0} × List ℕ). p.1) (ok_is (tt, at) r p.1) in rw (same, rest) refl)
      | inr p ↦ absurd (broken_not_ok (broken Syntax (c ∷ at)) r p.1)
    ]

pub byte_complete : (b : ℕ) (at : List ℕ) → byte_at b (b ∷ at) ≡ Ok (tt, at)
byte_complete b at = let same : (b == b) ≡ true = eq-eqb b b refl in rw same refl

pub word_sound : (word at : List ℕ) (r : Unit {0} × List ℕ) → word_at word at ≡ Ok r → at ≡ word ++ r.1
word_sound [] at r e = ap (λ (p : Unit {0} × List ℕ). p.1) (ok_is (tt, at) r e)
word_sound (b ∷ word) at r e =
    let a = bind_ok (byte_at b at) (λ r. word_at word r.1) r e in
    byte_sound b at a.0 a.1 ∙ ap (λ (l : List ℕ). b ∷ l) (word_sound word a.0.1 r a.2)

pub word_complete : (word at : List ℕ) → word_at word (word ++ at) ≡ Ok (tt, at)
word_complete [] at = refl
word_complete (b ∷ word) at = rw (byte_complete b (word ++ at)) (word_complete word at)

pub begins_parts : (b : ℕ) (at : List ℕ) → begins_with b at ≡ true → at ≡ b ∷ drop 1 at
begins_parts b [] e = absurd cc
begins_parts b (c ∷ at) e = let same : c ≡ b = eqb-true c b e in rw same refl

pub begins_complete : (b : ℕ) (at : List ℕ) → begins_with b (b ∷ at) ≡ true
begins_complete b at = eq-eqb b b refl

-- what stands behind an item or a member
pub next_sound : (close : ℕ) (at : List ℕ) (r : Bool × List ℕ) → next_at close at ≡ Ok r
    → ((r.0 ≡ false) × (skip_white at ≡ close ∷ r.1)) ⊎ ((next : List ℕ) × (r.0 ≡ true) × (skip_white at ≡ 44 ∷ next) × (r.1 ≡ skip_white next))
unfolding next_at
next_sound close at r e =
    elim (chosen (begins_with close (skip_white at)) (Ok (false, drop 1 (skip_white at))) (byte_at 44 (skip_white at) >>= λ comma. Ok (true, skip_white comma.1)) (Ok r) e) [
      | inl p ↦ (let same = ok_is (false, drop 1 (skip_white at)) r p.1 in
          inl (sym (ap (λ (p : Bool × List ℕ). p.0) same), begins_parts close (skip_white at) p.0 ∙ ap (λ (p : Bool × List ℕ). close ∷ p.1) same))
      | inr p ↦ (let a = bind_ok (byte_at 44 (skip_white at)) (λ comma. Ok (true, skip_white comma.1)) r p.1 in
          let same = ok_is (true, skip_white a.0.1) r a.2 in
          inr (a.0.1, sym (ap (λ (p : Bool × List ℕ). p.0) same), byte_sound 44 (skip_white at) a.0 a.1, sym (ap (λ (p : Bool × List ℕ). p.1) same)))
    ]

pub next_closes : (close : ℕ) (at rest : List ℕ) → skip_white at ≡ close ∷ rest → next_at close at ≡ Ok (false, rest)
unfolding next_at
next_closes close at rest e = rw (e, begins_complete close rest) refl

pub next_goes_on : (close : ℕ) (at next : List ℕ) → ((44 == close) ≡ false) → skip_white at ≡ 44 ∷ next → next_at close at ≡ Ok (true, skip_white next)
unfolding next_at
next_goes_on close at next differs e = rw (e, differs) refl
