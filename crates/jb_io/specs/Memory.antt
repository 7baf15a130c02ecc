-- Which calls of a stream in memory fail.
use Rattle.std.specs.Prelude.{◌≡◌, ℕ, ◌+◌, ◌-◌, ◌^◌, ◌<◌, ◌==◌, min, Bool, List, length}
use Rattle.std.specs.List.{list_any}
use Rattle.jb_io.specs.declared.failing.Failing.{Failing}

-- the number of the next call, counted from one; the count stops at the last value of a counter of 64 bits
abbrev pub next_call : Failing → ℕ
next_call failing = min (failing.calls + 1) (2 ^ 64 - 1)

-- the next call is one that is to fail
abbrev pub fails_next : Failing → Bool
fails_next failing = list_any (λ call. next_call failing == call) failing.at

-- there are bytes to take, and no room is left for any
abbrev pub FindsNoRoom : ℕ → List ℕ → Type 0
FindsNoRoom left bytes = (left ≡ 0) × (0 < length bytes)
