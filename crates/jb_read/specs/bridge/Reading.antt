-- What only private clauses and proofs cite, beside `Reading`.
use Rattle.std.specs.Prelude.{◌≡◌, ℕ, Bool, List, Result, Ok, Err}
use Rattle.std.specs.Borrow.{Bor}
use Rattle.jb_text.specs.declared.refused.Refused.{Refused}
use Rattle.jb_text.specs.declared.refused.Refused.TheVariants as refused
use Rattle.jb_read.specs.declared.fault.Broken.{Broken}

-- A reader that takes no memory gave what reading gives, and left what it leaves.
abbrev pub Tells : {X : Type 0} → Result X Broken → List ℕ → Result (X × List ℕ) Broken → Type 0
Tells (Ok x) rest read = read ≡ Ok (x, rest)
Tells (Err e) rest read = read ≡ Err e

-- a text that was lent, as its bytes
abbrev pub told_text : Result (Bor (List ℕ)) Broken → Result (List ℕ) Broken
told_text (Ok text) = Ok text.now
told_text (Err e) = Err e

-- the fault that reading gives, or out of memory
abbrev pub Fails : {Y : Type 0} → Refused Broken → Result Y Broken → Type 0
Fails (refused.Fault e) read = read ≡ Err e
Fails refused.Memory read = Unit {0}

-- A reader gave what reading gives, and left what it leaves, unless memory ran out.
abbrev pub Gives : {X : Type 0} → Result X (Refused Broken) → List ℕ → Result (X × List ℕ) Broken → Type 0
Gives (Ok x) rest read = read ≡ Ok (x, rest)
Gives (Err e) rest read = Fails e read

-- A loop's turn said whether another follows, made and left what reading does, unless memory ran out.
abbrev pub GivesTurn : {A : Type 0} → Result Bool (Refused Broken) → A → List ℕ → Result ((Bool × A) × List ℕ) Broken → Type 0
GivesTurn (Ok follows) made rest read = read ≡ Ok ((follows, made), rest)
GivesTurn (Err e) made rest read = Fails e read
