-- Readings that stopped.
use Rattle.std.proofs.Common.{◌≡◌, ℕ, Bool, true, false, cond, ◌⊎◌, inl, inr, List, [], ◌∷◌, Result, Ok, Err, refl}
use Rattle.std.specs.Prelude.{◌==◌}
use Rattle.jb_read.specs.declared.fault.Broken.{Broken}
use Rattle.jb_read.specs.declared.fault.FaultKind.TheVariants.{Syntax}
use Rattle.jb_read.specs.Reading.{◌>>=◌, broken, byte_at}
use Rattle.jb_read.specs.Values.{begins_with}

abbrev pub gave : {A : Type 0} → A → List ℕ → Result (A × List ℕ) Broken
gave x rest = Ok (x, rest)

abbrev pub stopped : {A : Type 0} → Broken → Result (A × List ℕ) Broken
stopped e = Err e

pub same_stop : {A : Type 0} (d e : Broken) → stopped {A = A} d ≡ stopped {A = A} e → e ≡ d
same_stop d e h = cc

pub bind_err : {A B : Type 0} (r : Result (A × List ℕ) Broken) (f : A × List ℕ → Result (B × List ℕ) Broken) (e : Broken) → (r >>= f) ≡ Err e → (r ≡ Err e) ⊎ ((x : A × List ℕ) × (r ≡ Ok x) × (f x ≡ Err e))
bind_err (Ok x) f e h = inr (x, refl, h)
bind_err (Err d) f e h = inl cc

pub wrap_err : {A B : Type 0} (r : Result (A × List ℕ) Broken) (make : A → B) (e : Broken) → (r >>= λ x. gave (make x.0) x.1) ≡ Err e → r ≡ Err e
wrap_err (Ok x) make e h = absurd cc
wrap_err (Err d) make e h = cc

pub byte_breaks : (b : ℕ) (at : List ℕ) (e : Broken) → byte_at b at ≡ Err e → (begins_with b at ≡ false) × (e ≡ broken Syntax at)
byte_breaks b [] e h = (refl, cc)
byte_breaks b (c ∷ at) e h = by_test (c == b) refl h
  where
    by_test : (t : Bool) → (c == b) ≡ t → cond t (gave {A = Unit {0}} tt at) (Err (broken Syntax (c ∷ at))) ≡ Err e → ((c == b) ≡ false) × (e ≡ broken Syntax (c ∷ at))
    by_test true t h = absurd cc
    by_test false t h = (t, cc)

pub byte_refused : (b : ℕ) (at : List ℕ) → begins_with b at ≡ false → byte_at b at ≡ Err (broken Syntax at)
byte_refused b [] e = refl
byte_refused b (c ∷ at) e = rw e refl
