-- What a reader of any type answered.
use Rattle.std.specs.Prelude.{◌≡◌, Result, Ok, Err}
use Rattle.jb_text.specs.declared.refused.Refused.{Refused}
use Rattle.jb_text.specs.declared.refused.Refused.TheVariants as refused
use Rattle.jb_read.specs.declared.fault.ReadFault.{ReadFault}

-- the reader gave this value or this fault, unless memory ran out
abbrev pub Answered : {A : Type 0} → Result A (Refused ReadFault) → Result A ReadFault → Type 0
Answered (Ok v) read = read ≡ Ok v
Answered (Err (refused.Fault e)) read = read ≡ Err e
Answered (Err refused.Memory) read = Unit {0}
