-- What comes of a request: sections 6 and 7 of GraphQL October 2021.
use Rattle.std.specs.Prelude.{◌≡◌, ℕ, Bool, List, [], Option, Some, Result, Ok, Err, box_value}
use Rattle.std.specs.Arc.{arc_value}
use Rattle.gql_resolvers.specs.Data.{Data as DataOf}
use Rattle.gql_resolvers.specs.DataMeaning.{data_meaning}
use Rattle.gql_engine.specs.AnswerError.{Call}
use Rattle.gql_engine.specs.Answering.{GivesAnswer}
use Rattle.gql_engine.specs.AtHand.{TwoTexts}
use Rattle.gql_engine.specs.Told.{IsToldOf}
use Rattle.gql_engine.specs.Wanted.{Members}
use Rattle.gql_engine.specs.declared.answer_error.AnswerError.{AnswerError}
use Rattle.gql_c.specs.Replies.{HoldsReply}
use Rattle.gql_c.specs.Requests.{IsNameRead, IsNoName, is_introspected, name_given, variables_given}
use Rattle.gql_c.specs.declared.held.Held.{Held}
use Rattle.gql_c.specs.declared.held.Held.TheVariants.{Query, Data}
use Rattle.gql_c.specs.declared.outcome.Outcome.{Outcome}
use Rattle.gql_c.specs.declared.outcome.Outcome.TheVariants.{Answered, Refused, NoMemory, WrongHandle, Unread}

-- a response, or the JSON of a refusal
abbrev pub IsToldAs : Result (List ℕ) AnswerError → Outcome → Type 0
IsToldAs (Ok response) (Answered held) = HoldsReply (λ bytes. bytes ≡ response) (box_value held)
IsToldAs (Ok response) NoMemory = Unit {0}
IsToldAs (Ok response) outcome = ⊥
IsToldAs (Err refusal) (Refused held) = HoldsReply (IsToldOf refusal) (box_value held)
IsToldAs (Err refusal) NoMemory = Unit {0}
IsToldAs (Err refusal) outcome = ⊥

-- the object that a query begins at
abbrev pub root_of : Members → DataOf
root_of members = record { type_name = []; members = members }

-- the call for an answer to an operation of a query
abbrev pub call_to : TwoTexts → Option (List ℕ) → List ℕ → Bool → Call
call_to texts name variables introspection = record {
  schema = texts.schema;
  query = texts.query;
  operation_name = name;
  variables = variables;
  introspection = introspection;
}

-- what a call for an answer gives, over plain data
abbrev pub GivesOver : Members → Call → Result (List ℕ) AnswerError → Type 0
GivesOver root call result = GivesAnswer (λ (object : DataOf). object.type_name) data_meaning (root_of root) call result

-- what the texts of a schema and of a query are answered with, over these data
pub record Executes (texts : TwoTexts) (root : Members) (name : Option (List ℕ)) (variables : List ℕ) (flags : ℕ) (outcome : Outcome) : Type 0 where
  pub result : Result (List ℕ) AnswerError
  pub gives : GivesOver root (call_to texts name (variables_given variables) (is_introspected flags)) result
  pub told : IsToldAs result outcome

-- the same by the name that counts, which may be no text
pub data ExecutesNamed (texts : TwoTexts) (root : Members) (name variables : List ℕ) (flags : ℕ) : Outcome → Type 0 where
  executed : (outcome : Outcome) → IsNameRead name flags → Executes texts root (name_given name flags) variables flags outcome
      → ExecutesNamed texts root name variables flags outcome
  unread : IsNoName name flags → ExecutesNamed texts root name variables flags Unread

-- the same of what two handles hold, which may be no query and no data
abbrev pub ExecutesHeld : (query root : Option Held) → (name variables : List ℕ) → ℕ → Outcome → Type 0
ExecutesHeld (Some (Query query)) (Some (Data members)) name variables flags outcome =
    ExecutesNamed (arc_value query) (arc_value members) name variables flags outcome
ExecutesHeld query root name variables flags outcome = outcome ≡ WrongHandle
