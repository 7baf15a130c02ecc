-- What comes of sharing a value.
use Rattle.std.specs.Prelude.{◌≡◌, Option, Some, None, box_value}
use Rattle.std.specs.Arc.{arc_value}
use Rattle.gql_c.specs.declared.held.Held.{Held}
use Rattle.gql_c.specs.declared.held.Held.TheVariants.{Schema, Query, Data, Reply, Answers}
use Rattle.gql_c.specs.declared.outcome.Outcome.{Outcome}
use Rattle.gql_c.specs.declared.outcome.Outcome.TheVariants.{Answered, Refused, NoMemory, WrongHandle, Unread}

-- both are the same schema, the same query, or the same data
abbrev pub IsSame : Held → Held → Type 0
IsSame (Schema one) (Schema other) = arc_value one ≡ arc_value other
IsSame (Query one) (Query other) = arc_value one ≡ arc_value other
IsSame (Data one) (Data other) = arc_value one ≡ arc_value other
IsSame one other = ⊥

-- it can be shared: no call changes it, and it is no reply
abbrev pub IsShared : Held → Type 0
IsShared (Schema service) = Unit {0}
IsShared (Query query) = Unit {0}
IsShared (Data members) = Unit {0}
IsShared (Reply bytes) = ⊥
IsShared (Answers table) = ⊥

-- the same value, unless memory ran out; a reply and answers are not shared
abbrev pub SharesHeld : Held → Outcome → Type 0
SharesHeld held (Answered made) = IsSame held (box_value made)
SharesHeld held (Refused made) = ⊥
SharesHeld held NoMemory = Unit {0}
SharesHeld held WrongHandle = IsShared held → ⊥
SharesHeld held Unread = ⊥

abbrev pub Shares : Option Held → Outcome → Type 0
Shares None outcome = outcome ≡ WrongHandle
Shares (Some held) outcome = SharesHeld held outcome
