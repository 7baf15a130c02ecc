-- What only private clauses and proofs cite, beside `Data`.
use Rattle.std.specs.Prelude.{◌≡◌, Some, None, box_value}
use Rattle.jb_tree.specs.declared.value.Value.{Value}
use Rattle.jb_tree.specs.Value.{object_members}
use Rattle.gql_engine.specs.Wanted.{Members}
use Rattle.gql_c.specs.declared.outcome.Outcome.{Outcome}
use Rattle.gql_c.specs.declared.outcome.Outcome.TheVariants.{Answered, Refused, NoMemory, WrongHandle, Unread}
use Rattle.gql_c.specs.Data.{HoldsData}

-- of a value: its members, where it is an object
abbrev pub ReadsValue : Value → Outcome → Type 0
ReadsValue value (Answered held) = HoldsData (λ members. object_members value ≡ Some members) (box_value held)
ReadsValue value (Refused held) = ⊥
ReadsValue value NoMemory = Unit {0}
ReadsValue value WrongHandle = ⊥
ReadsValue value Unread = object_members value ≡ None

-- of the members of an object
abbrev pub ReadsMembers : Members → Outcome → Type 0
ReadsMembers members (Answered held) = HoldsData (λ own. own ≡ members) (box_value held)
ReadsMembers members (Refused held) = ⊥
ReadsMembers members NoMemory = Unit {0}
ReadsMembers members WrongHandle = ⊥
ReadsMembers members Unread = ⊥
