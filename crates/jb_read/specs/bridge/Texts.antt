-- What only private clauses and proofs cite, beside `Texts`.
use Rattle.std.specs.Prelude.{◌≡◌, ℕ, ◌≤◌, Result, Ok, Err}
use Rattle.jb_text.specs.declared.refused.Refused.{Refused}
use Rattle.jb_text.specs.declared.refused.Refused.TheVariants as refused
use Rattle.jb_tree.specs.declared.value.Value.{Value}
use Rattle.jb_read.specs.declared.fault.Broken.{Broken}
use Rattle.jb_read.specs.declared.fault.ReadFault.{ReadFault}
use Rattle.jb_read.specs.bridge.Reading.{Fails}
use Rattle.jb_read.specs.Texts.{place_of}

-- the same where the fault isn't placed yet
abbrev pub GivesValue : Result Value (Refused Broken) → Result Value Broken → Type 0
GivesValue (Ok v) read = read ≡ Ok v
GivesValue (Err e) read = Fails e read

-- a fault stands within so many bytes
abbrev pub IsWithin : ℕ → Refused Broken → Type 0
IsWithin len (refused.Fault e) = e.left ≤ len
IsWithin len refused.Memory = Unit {0}

abbrev pub placed_stop : ℕ → Refused Broken → Refused ReadFault
placed_stop len (refused.Fault e) = refused.Fault (place_of len e)
placed_stop len refused.Memory = refused.Memory
