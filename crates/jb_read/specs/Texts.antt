-- Texts: one value between white space (RFC 8259, section 2), of at most 127 levels.
use Rattle.std.specs.Prelude.{◌≡◌, ℕ, ◌-◌, List, length, Result, Ok, Err}
use Rattle.jb_text.specs.declared.refused.Refused.{Refused}
use Rattle.jb_text.specs.declared.refused.Refused.TheVariants as refused
use Rattle.jb_tree.specs.declared.value.Value.{Value}
use Rattle.jb_read.specs.declared.fault.Broken.{Broken}
use Rattle.jb_read.specs.declared.fault.ReadFault.{ReadFault}
use Rattle.jb_read.specs.Reading.{◌>>=◌}
use Rattle.jb_read.specs.Values.{first_value, whole_value}

-- a fault in a text of this length, by the bytes that are left where it stands
abbrev pub place_of : ℕ → Broken → ReadFault
place_of len e = record { kind = e.kind; place = len - e.left }

abbrev pub placed : {A : Type 0} → ℕ → Result A Broken → Result A ReadFault
placed len (Ok x) = Ok x
placed len (Err e) = Err (place_of len e)

-- the one value of a text, or its first fault
abbrev pub text_value : List ℕ → Result Value ReadFault
text_value bytes = placed (length bytes) (whole_value 127 bytes)

abbrev pub front_value : List ℕ → Result Value Broken
front_value bytes = first_value 127 bytes >>= λ read. Ok read.0

-- the value that a text begins with, or its first fault
abbrev pub text_front : List ℕ → Result Value ReadFault
text_front bytes = placed (length bytes) (front_value bytes)

-- A reader of a text gave what reading gives, unless memory ran out.
abbrev pub Answers : Result Value (Refused ReadFault) → Result Value ReadFault → Type 0
Answers (Ok v) read = read ≡ Ok v
Answers (Err (refused.Fault e)) read = read ≡ Err e
Answers (Err refused.Memory) read = Unit {0}
