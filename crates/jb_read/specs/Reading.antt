-- Readers of bytes: what is read and what is left, or the first fault.
use Rattle.std.specs.Prelude.{ℕ, zero, suc, Bool, ◌==◌, if◌then◌else◌, List, [], ◌∷◌, length, Result, Ok, Err}
use Rattle.jb_read.specs.declared.fault.FaultKind.{FaultKind}
use Rattle.jb_read.specs.declared.fault.FaultKind.TheVariants.{Syntax}
use Rattle.jb_read.specs.declared.fault.Broken.{Broken}

-- a fault at the front of what is left
abbrev pub broken : FaultKind → List ℕ → Broken
broken k at = record { kind = k; left = length at }

abbrev pub fails : {A : Type 0} → FaultKind → List ℕ → Result A Broken
fails kind at = Err (broken kind at)

infixl 10 ◌>>=◌
abbrev pub ◌>>=◌ : {A B : Type 0} → Result A Broken → (A → Result B Broken) → Result B Broken
(Ok x) >>= f = f x
(Err e) >>= f = Err e

-- one turn of a loop after another, while another follows
abbrev pub turns : {A : Type 0} → (A → List ℕ → Result ((Bool × A) × List ℕ) Broken) → ℕ → A → List ℕ → Result (A × List ℕ) Broken
turns turn zero made at = fails Syntax []
turns turn (suc most) made at = turn made at >>= λ t. if t.0.0 then turns turn most t.0.1 t.1 else Ok (t.0.1, t.1)

-- this byte, or Syntax where another or none stands
abbrev pub byte_at : ℕ → List ℕ → Result (Unit {0} × List ℕ) Broken
byte_at b [] = fails Syntax []
byte_at b (c ∷ at) = if c == b then Ok (tt, at) else fails Syntax (c ∷ at)

-- these bytes, or Syntax at the first that differs
abbrev pub word_at : List ℕ → List ℕ → Result (Unit {0} × List ℕ) Broken
word_at [] at = Ok (tt, at)
word_at (b ∷ word) at = byte_at b at >>= λ r. word_at word r.1
