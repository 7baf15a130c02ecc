-- What comes of the text of a schema: sections 2 and 3 of GraphQL October 2021.
use Rattle.std.specs.Prelude.{ℕ, List, Err, box_value}
use Rattle.std.specs.Arc.{arc_value}
use Rattle.std.specs.Str.{IsUtf8}
use Rattle.jb_text.specs.declared.refused.Refused.TheVariants.{Fault}
use Rattle.gql_engine.specs.Service.{IsOfText, IsServiceOf}
use Rattle.gql_engine.specs.Told.{IsToldOf}
use Rattle.gql_engine.specs.declared.answer_error.AnswerError.{AnswerError}
use Rattle.gql_engine.specs.declared.answer_error.AnswerError.TheVariants as error
use Rattle.gql_c.specs.Replies.{HoldsReply}
use Rattle.gql_c.specs.declared.held.Held.{Held}
use Rattle.gql_c.specs.declared.held.Held.TheVariants.{Schema, Query, Data, Reply, Answers}
use Rattle.gql_c.specs.declared.outcome.Outcome.{Outcome}
use Rattle.gql_c.specs.declared.outcome.Outcome.TheVariants.{Answered, Refused, NoMemory, WrongHandle, Unread}

-- the bytes are the JSON of a refusal that has this cause
pub record TellsRefusal (Cause : AnswerError → Type 0) (bytes : List ℕ) : Type 0 where
  pub refusal : AnswerError
  pub cause : Cause refusal
  pub told : IsToldOf refusal bytes

-- what is wrong with the text of a schema
abbrev pub IsNoSchema : List ℕ → AnswerError → Type 0
IsNoSchema text (error.Variables fault) = ⊥
IsNoSchema text (error.Schema list) = IsServiceOf text (Err (Fault list))
IsNoSchema text (error.Document list) = ⊥
IsNoSchema text (error.Request step told) = ⊥
IsNoSchema text error.Memory = ⊥

-- it is the schema that the text means
abbrev pub HoldsSchema : List ℕ → Held → Type 0
HoldsSchema text (Schema service) = IsOfText text (arc_value service)
HoldsSchema text (Query query) = ⊥
HoldsSchema text (Data members) = ⊥
HoldsSchema text (Reply bytes) = ⊥
HoldsSchema text (Answers table) = ⊥

-- of a text: a value of which this holds, or the JSON of a refusal that has this cause
abbrev pub Reads : (Held → Type 0) → (AnswerError → Type 0) → Outcome → Type 0
Reads Holds Cause (Answered held) = Holds (box_value held)
Reads Holds Cause (Refused held) = HoldsReply (TellsRefusal Cause) (box_value held)
Reads Holds Cause NoMemory = Unit {0}
Reads Holds Cause WrongHandle = ⊥
Reads Holds Cause Unread = ⊥

-- the schema that a text means, or what is wrong with it
abbrev pub ReadsSchemaText : List ℕ → Outcome → Type 0
ReadsSchemaText text outcome = Reads (HoldsSchema text) (IsNoSchema text) outcome

-- of bytes, which may be no text
pub data ReadsSchema (bytes : List ℕ) : Outcome → Type 0 where
  text : (outcome : Outcome) → IsUtf8 bytes → ReadsSchemaText bytes outcome → ReadsSchema bytes outcome
  no_text : ¬ (IsUtf8 bytes) → ReadsSchema bytes Unread
