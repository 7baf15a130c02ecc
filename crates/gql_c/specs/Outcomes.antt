-- What comes of a call, and how it is told: by a status, and by what two handles hold afterwards.
use Rattle.std.specs.Prelude.{◌≡◌, ℕ, Option, Some, None, box_value}
use Rattle.gql_c.specs.declared.held.Held.{Held}
use Rattle.gql_c.specs.declared.outcome.Outcome.{Outcome}
use Rattle.gql_c.specs.declared.outcome.Outcome.TheVariants.{Answered, Refused, NoMemory, WrongHandle, Unread}
use Rattle.gql_c.specs.declared.status.TheConstants.{ANSWERED, NO_MEMORY, REFUSED, UNREAD, WRONG_HANDLE}

-- Each status has its outcome. The value that was made is in the first handle, and the reply that says why there is none in the second; a
-- handle that nothing is put into is empty.
abbrev pub IsMade : Outcome → ℕ → (made reply : Option Held) → Type 0
IsMade (Answered held) status made reply = (status ≡ ANSWERED) × ((made ≡ Some (box_value held)) × (reply ≡ None))
IsMade (Refused held) status made reply = (status ≡ REFUSED) × ((made ≡ None) × (reply ≡ Some (box_value held)))
IsMade NoMemory status made reply = (status ≡ NO_MEMORY) × ((made ≡ None) × (reply ≡ None))
IsMade WrongHandle status made reply = (status ≡ WRONG_HANDLE) × ((made ≡ None) × (reply ≡ None))
IsMade Unread status made reply = (status ≡ UNREAD) × ((made ≡ None) × (reply ≡ None))

-- the same with one handle for both
abbrev pub IsReplied : Outcome → ℕ → Option Held → Type 0
IsReplied (Answered held) status to = (status ≡ ANSWERED) × (to ≡ Some (box_value held))
IsReplied (Refused held) status to = (status ≡ REFUSED) × (to ≡ Some (box_value held))
IsReplied NoMemory status to = (status ≡ NO_MEMORY) × (to ≡ None)
IsReplied WrongHandle status to = (status ≡ WRONG_HANDLE) × (to ≡ None)
IsReplied Unread status to = (status ≡ UNREAD) × (to ≡ None)

-- an outcome of which this holds is told so
pub record TellsMade (Holds : Outcome → Type 0) (status : ℕ) (made reply : Option Held) : Type 0 where
  pub outcome : Outcome
  pub holds : Holds outcome
  pub told : IsMade outcome status made reply

pub record Tells (Holds : Outcome → Type 0) (status : ℕ) (to : Option Held) : Type 0 where
  pub outcome : Outcome
  pub holds : Holds outcome
  pub told : IsReplied outcome status to
