-- A loop by turns.
use Rattle.std.proofs.Common.{◌≡◌, ℕ, suc, ◌≤◌, Bool, List, length, Result, refl, arith}
use Rattle.jb_read.specs.declared.fault.Broken.{Broken}
use Rattle.jb_read.specs.Reading.{turns}

-- What is still to come is what was to come at first: with some bound on the turns, one more than what is left.
pub record Goes {A : Type 0} (turn : A → List ℕ → Result ((Bool × A) × List ℕ) Broken) (made : A) (at : List ℕ) (total : Result (A × List ℕ) Broken) : Type 0 where
  pub most : ℕ
  pub enough : length at ≤ most
  pub same : turns turn (suc most) made at ≡ total

pub Goes-start : {A : Type 0} (turn : A → List ℕ → Result ((Bool × A) × List ℕ) Broken) (made : A) (at : List ℕ) → Goes turn made at (turns turn (suc (length at)) made at)
Goes-start turn made at = record { most = length at; enough = omega arith; same = refl }
