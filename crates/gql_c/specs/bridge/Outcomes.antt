-- What only private clauses and proofs cite, beside `Outcomes`.
use Rattle.std.specs.Prelude.{◌≡◌, ℕ, List, Result, Ok, Err, box_value}
use Rattle.gql_engine.specs.Told.{IsToldOf}
use Rattle.gql_engine.specs.declared.answer_error.AnswerError.{AnswerError}
use Rattle.gql_c.specs.Replies.{HoldsReply}
use Rattle.gql_c.specs.declared.held.Held.{Held}
use Rattle.gql_c.specs.declared.outcome.Outcome.{Outcome}
use Rattle.gql_c.specs.declared.outcome.Outcome.TheVariants.{Answered, Refused, NoMemory, WrongHandle, Unread}

-- the value was made, unless memory ran out
abbrev pub IsAnswered : Held → Outcome → Type 0
IsAnswered held (Answered made) = box_value made ≡ held
IsAnswered held (Refused made) = ⊥
IsAnswered held NoMemory = Unit {0}
IsAnswered held WrongHandle = ⊥
IsAnswered held Unread = ⊥

-- a refusal with this text, unless memory ran out
abbrev pub IsRefusedText : List ℕ → Outcome → Type 0
IsRefusedText text (Answered made) = ⊥
IsRefusedText text (Refused made) = HoldsReply (λ bytes. bytes ≡ text) (box_value made)
IsRefusedText text NoMemory = Unit {0}
IsRefusedText text WrongHandle = ⊥
IsRefusedText text Unread = ⊥

abbrev pub IsRefusedWith : {E : Type 0} → Result (List ℕ) E → Outcome → Type 0
IsRefusedWith (Ok text) outcome = IsRefusedText text outcome
IsRefusedWith (Err error) outcome = outcome ≡ NoMemory

-- the JSON of a refusal, unless memory ran out
abbrev pub IsRefusal : AnswerError → Outcome → Type 0
IsRefusal refusal (Answered made) = ⊥
IsRefusal refusal (Refused made) = HoldsReply (IsToldOf refusal) (box_value made)
IsRefusal refusal NoMemory = Unit {0}
IsRefusal refusal WrongHandle = ⊥
IsRefusal refusal Unread = ⊥
