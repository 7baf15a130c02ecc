-- What comes of the text of data (RFC 8259).
use Rattle.std.specs.Prelude.{ℕ, List, box_value}
use Rattle.std.specs.Arc.{arc_value}
use Rattle.jb_read.specs.Faults.{JsonFault}
use Rattle.jb_read.specs.declared.fault.ReadFault.{ReadFault}
use Rattle.gql_engine.specs.AnswerError.{IsNoObject, IsObjectText}
use Rattle.gql_engine.specs.Wanted.{Members}
use Rattle.gql_c.specs.declared.held.Held.{Held}
use Rattle.gql_c.specs.declared.held.Held.TheVariants.{Schema, Query, Data, Reply, Answers}
use Rattle.gql_c.specs.declared.outcome.Outcome.{Outcome}
use Rattle.gql_c.specs.declared.outcome.Outcome.TheVariants.{Answered, Refused, NoMemory, WrongHandle, Unread}

-- it is data, of whose members this holds
abbrev pub HoldsData : (Members → Type 0) → Held → Type 0
HoldsData Holds (Schema service) = ⊥
HoldsData Holds (Query query) = ⊥
HoldsData Holds (Data members) = Holds (arc_value members)
HoldsData Holds (Reply bytes) = ⊥
HoldsData Holds (Answers table) = ⊥

-- the bytes are no JSON text, or one of another value than an object
pub data IsNoData (bytes : List ℕ) : Type 0 where
  broken : (fault : ReadFault) → JsonFault bytes fault → IsNoData bytes
  other : IsNoObject bytes → IsNoData bytes

-- of bytes: the members of the object that they spell, where they do
abbrev pub ReadsData : List ℕ → Outcome → Type 0
ReadsData bytes (Answered held) = HoldsData (IsObjectText bytes) (box_value held)
ReadsData bytes (Refused held) = ⊥
ReadsData bytes NoMemory = Unit {0}
ReadsData bytes WrongHandle = ⊥
ReadsData bytes Unread = IsNoData bytes
