-- What comes of a step of a request whose resolvers are the caller's: sections 6 and 7 of GraphQL October 2021.
use Rattle.std.specs.Prelude.{◌≡◌, ℕ, List, [], Option, Some, None, Result, Ok, Err, box_value}
use Rattle.std.specs.Arc.{arc_value}
use Rattle.jb_print.specs.Compact.{compact}
use Rattle.jb_tree.specs.declared.value.Value.{Value}
use Rattle.gql_engine.specs.AtHand.{TwoTexts}
use Rattle.gql_engine.specs.declared.answer_error.AnswerError.{AnswerError}
use Rattle.gql_rounds.specs.Rounds.{GivesRound}
use Rattle.gql_rounds.specs.Told.{asks_value}
use Rattle.gql_rounds.specs.declared.round.Round.{Round}
use Rattle.gql_rounds.specs.declared.round.Round.TheVariants as round
use Rattle.gql_c.specs.Executions.{IsToldAs, call_to}
use Rattle.gql_c.specs.Outcomes.{IsReplied}
use Rattle.gql_c.specs.Replies.{HoldsReply}
use Rattle.gql_c.specs.Requests.{IsNameRead, IsNoName, is_introspected, name_given, variables_given}
use Rattle.gql_c.specs.Tables.{Table}
use Rattle.gql_c.specs.declared.held.Held.{Held}
use Rattle.gql_c.specs.declared.held.Held.TheVariants.{Query, Answers}
use Rattle.gql_c.specs.declared.outcome.Outcome.TheVariants.{NoMemory, WrongHandle, Unread}
use Rattle.gql_c.specs.declared.status.TheConstants.{ASKS}
use Rattle.gql_c.specs.declared.step.Stepping.{Stepping}
use Rattle.gql_c.specs.declared.step.Stepping.TheVariants.{Asks, Ended}

-- the reply is the JSON of what is asked, unless memory ran out
abbrev pub AreAsksTold : Value → Stepping → Type 0
AreAsksTold asks (Asks held) = HoldsReply (λ bytes. bytes ≡ compact asks) (box_value held)
AreAsksTold asks (Ended outcome) = outcome ≡ NoMemory

-- nothing is asked, and this is told as the answer of a request is
abbrev pub EndsAs : Result (List ℕ) AnswerError → Stepping → Type 0
EndsAs answer (Asks held) = ⊥
EndsAs answer (Ended outcome) = IsToldAs answer outcome

-- what is asked, or a response, or the JSON of a refusal
abbrev pub IsToldRound : Result Round AnswerError → Stepping → Type 0
IsToldRound (Ok (round.Asks asks)) stepping = AreAsksTold (asks_value asks) stepping
IsToldRound (Ok (round.Answer response)) stepping = EndsAs (Ok response) stepping
IsToldRound (Err refusal) stepping = EndsAs (Err refusal) stepping

-- what a round of a request gives for the texts of a schema and of a query, with these answers
pub record Steps (texts : TwoTexts) (table : Table) (name : Option (List ℕ)) (variables : List ℕ) (flags : ℕ) (stepping : Stepping) : Type 0 where
  pub result : Result Round AnswerError
  pub gives : GivesRound table (call_to texts name (variables_given variables) (is_introspected flags)) result
  pub told : IsToldRound result stepping

-- the same by the name that counts, which may be no text
pub data StepsNamed (texts : TwoTexts) (table : Table) (name variables : List ℕ) (flags : ℕ) : Stepping → Type 0 where
  stepped : (stepping : Stepping) → IsNameRead name flags → Steps texts table (name_given name flags) variables flags stepping
      → StepsNamed texts table name variables flags stepping
  unread : IsNoName name flags → StepsNamed texts table name variables flags (Ended Unread)

-- the same of the answers that a handle holds, where nothing is no answer, and anything else is wrong
abbrev pub StepsOver : TwoTexts → Option Held → (name variables : List ℕ) → ℕ → Stepping → Type 0
StepsOver texts None name variables flags stepping = StepsNamed texts [] name variables flags stepping
StepsOver texts (Some (Answers table)) name variables flags stepping = StepsNamed texts table name variables flags stepping
StepsOver texts held name variables flags stepping = stepping ≡ Ended WrongHandle

-- the same of what two handles hold, of which the first may be no query
abbrev pub StepsHeld : (query answers : Option Held) → (name variables : List ℕ) → ℕ → Stepping → Type 0
StepsHeld (Some (Query query)) answers name variables flags stepping = StepsOver (arc_value query) answers name variables flags stepping
StepsHeld query answers name variables flags stepping = stepping ≡ Ended WrongHandle

-- ---- how it is told

-- what is asked has a status of its own; all else is told as other calls tell it
abbrev pub IsStepTold : Stepping → ℕ → Option Held → Type 0
IsStepTold (Asks held) status reply = (status ≡ ASKS) × (reply ≡ Some (box_value held))
IsStepTold (Ended outcome) status reply = IsReplied outcome status reply

-- what comes of a step, of which this holds, is told so
pub record TellsStep (Holds : Stepping → Type 0) (status : ℕ) (reply : Option Held) : Type 0 where
  pub stepping : Stepping
  pub holds : Holds stepping
  pub told : IsStepTold stepping status reply
