-- The names of faults in messages.
use Rattle.std.specs.Prelude.{ℕ, List, codes}
use Rattle.jb_read.specs.declared.fault.FaultKind.{FaultKind}
use Rattle.jb_read.specs.declared.fault.FaultKind.TheVariants.{Syntax, Float, NumberRange, Depth}

abbrev pub kind_name : FaultKind → List ℕ
kind_name Syntax = codes "syntax"
kind_name Float = codes "float"
kind_name NumberRange = codes "number range"
kind_name Depth = codes "depth"
