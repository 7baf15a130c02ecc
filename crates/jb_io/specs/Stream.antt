-- What sources and sinks have in common.
use Rattle.std.specs.Prelude.{◌≡◌, ℕ, ◌+◌, ◌-◌, ◌^◌, ◌≤◌, min, List, length, Result, IfOk, MatchResult}

-- the count of faults rose, or it stands at the last value of a counter of 64 bits
abbrev pub HasFailed : ℕ → ℕ → Type 0
HasFailed before now = min (before + 1) (2 ^ 64 - 1) ≤ now

-- a failure was counted, and once; else the count stayed as it was
abbrev pub Counts : {T E : Type 0} → ℕ → ℕ → Result T E → Type 0
Counts before now result = MatchResult result (λ _. now ≡ before) (λ _. now ≡ min (before + 1) (2 ^ 64 - 1))

-- no more bytes moved than the slice has
abbrev pub IsWithin : {E : Type 0} → Result ℕ E → List ℕ → Type 0
IsWithin result bytes = IfOk result (λ count. count ≤ length bytes)

-- at most so many bytes moved in the call
abbrev pub MovesAtMost : {E : Type 0} → ℕ → Result ℕ E → Type 0
MovesAtMost piece result = IfOk result (λ count. count ≤ piece)
