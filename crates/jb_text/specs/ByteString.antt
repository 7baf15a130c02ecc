use Rattle.std.specs.Prelude.{◌≡◌, ℕ, List, Result, Ok, Err}
use Rattle.std.specs.Str.{IsUtf8}
use Rattle.jb_text.specs.declared.byte_string.SliceFault.{SliceFault}
use Rattle.jb_text.specs.declared.refused.Refused.{Refused}
use Rattle.jb_text.specs.declared.refused.Refused.TheVariants.{Fault, Memory}

-- what cutting a text out of a buffer answers, where these bytes stand: that text of theirs, or that they are no UTF-8
abbrev pub IsSlice : Result (List ℕ) (Refused SliceFault) → List ℕ → Type 0
IsSlice (Ok text) bytes = (text ≡ bytes) × IsUtf8 bytes
IsSlice (Err (Fault _)) bytes = ¬ (IsUtf8 bytes)
IsSlice (Err Memory) bytes = Unit {0}
