-- Texts that are read by readers which allow different numbers of levels.
use Rattle.std.specs.Prelude.{◌≡◌, ◌⊎◌, ℕ, Result, Ok, Err}
use Rattle.jb_read.specs.declared.fault.Broken.{Broken}
use Rattle.jb_read.specs.declared.fault.FaultKind.TheVariants.{Depth}
use Rattle.jb_read.specs.declared.fault.ReadFault.{ReadFault}

-- one level too many is opened
abbrev pub IsDeep : {A : Type 0} → Result A Broken → Type 0
IsDeep (Ok x) = ⊥
IsDeep (Err stop) = stop.kind ≡ Depth

-- what fewer levels allow is what more allow, or is refused as too deep
abbrev pub IsAlikeOrDeep : {A : Type 0} → Result A Broken → Result A Broken → Type 0
IsAlikeOrDeep few many = (few ≡ many) ⊎ IsDeep few

-- the fault of a text that is too deep at this byte
abbrev pub is_deep_at : ℕ → ReadFault
is_deep_at place = record { kind = Depth; place = place }
