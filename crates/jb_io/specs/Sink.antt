-- What writing to a sink left in it.
use Rattle.std.specs.Prelude.{◌≡◌, ℕ, ◌+◌, ◌<◌, ◌≤◌, List, Option, [], None, Some, ◌++◌, length, take, ⊤, Result, IfOk, MatchResult}

-- what a sink tells: the bytes that it took, and how many more it has room to tell
pub record Told : Type 0 where
  pub bytes : List ℕ
  pub room : ℕ

-- the sink took these bytes: what it tells grew by them, and it tells nothing any more only where they passed its room
abbrev pub Takes : Option Told → Option Told → List ℕ → Type 0
Takes None None bytes = ⊤
Takes None (Some after) bytes = ⊥
Takes (Some before) None bytes = before.room < length bytes
Takes (Some before) (Some after) bytes = (after.bytes ≡ before.bytes ++ bytes) × (before.room ≤ after.room + length bytes)

-- a write took as many of the first bytes as it says, and nothing where it failed
abbrev pub WriteTakes : {E : Type 0} → Option Told → Option Told → Result ℕ E → List ℕ → Type 0
WriteTakes old new result bytes = MatchResult result (λ count. Takes old new (take count bytes)) (λ _. Takes old new [])

-- at least one byte was taken, where there was one
abbrev pub TakesSome : {E : Type 0} → Result ℕ E → List ℕ → Type 0
TakesSome result bytes = IfOk result (λ count. 0 < length bytes → 0 < count)

-- the sink took the first of the bytes, and not all of them
pub record TakesFront (old new : Option Told) (bytes : List ℕ) : Type 0 where
  pub count : ℕ
  pub short : count < length bytes
  pub took : Takes old new (take count bytes)
