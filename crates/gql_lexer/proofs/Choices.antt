-- What tests on bytes and choices between numbers tell.
use Rattle.std.proofs.Common.{◌≡◌, ℕ, zero, suc, ◌<◌, ◌≤◌, ◌⊎◌, inl, inr, Bool, true, false, not, ◌&&◌, ◌||◌, List, [], ◌∷◌, length, get_or, refl, arith}
use Rattle.std.specs.Prelude.{if◌then◌else◌, ◌==◌}
use Rattle.std.proofs.lemmas.Bool.{ne_eqb}

pub both : (a b : Bool) → (a && b) ≡ true → (a ≡ true) × (b ≡ true)
both true b h = (refl, h)
both false b h = absurd (let f : false ≡ true = h in cc)

-- `not a || b` fails
pub neither : (a b : Bool) → (not a || b) ≡ false → (a ≡ true) × (b ≡ false)
neither true b h = (refl, h)
neither false b h = absurd (let f : true ≡ false = h in cc)

-- a bound of each choice bounds the choice
pub choice : (b : Bool) (x y m : ℕ) → (b ≡ true → x ≤ m) → (b ≡ false → y ≤ m) → (if b then x else y) ≤ m
choice true x y m p q = p refl
choice false x y m p q = q refl

-- a choice that gives 0, and not 1 and more
pub chose_zero : (b : Bool) (x y : ℕ) → (if b then suc x else y) ≡ 0 → (b ≡ false) × (y ≡ 0)
chose_zero true x y h = absurd (omega arith)
chose_zero false x y h = (refl, h)

-- a byte that is not 0 lies in the text
pub within : (at : List ℕ) (i : ℕ) → 0 < get_or at i 0 → i < length at
within [] i h = absurd (omega arith)
within (b ∷ at) zero h = omega arith
within (b ∷ at) (suc i) h = omega (arith, within at i h)

pub not_true : (b : Bool) → not b ≡ true → b ≡ false
not_true true h = absurd (let f : false ≡ true = h in cc)
not_true false h = refl

pub not_false : (b : Bool) → not b ≡ false → b ≡ true
not_false true h = refl
not_false false h = absurd (let f : true ≡ false = h in cc)

pub and_true : (b : Bool) → (b && true) ≡ false → b ≡ false
and_true true h = absurd (let f : true ≡ false = h in cc)
and_true false h = refl

pub bool_cases : (b : Bool) → (b ≡ true) ⊎ (b ≡ false)
bool_cases true = inl refl
bool_cases false = inr refl

pub not_zero : (n : ℕ) → (suc n == 0) ≡ false
not_zero n = ne_eqb (suc n) 0 (λ e. omega (arith, e))
