-- What is answered to what is wanted. Want of memory alone is free.
use Rattle.std.specs.Prelude.{◌≡◌, ℕ, List, Result, Ok, Err}
use Rattle.gql_exec.specs.ThingMeaning.{Resolving}
use Rattle.gql_response.specs.declared.graphql_error.GraphQLError.{GraphQLError}
use Rattle.gql_parser.specs.SchemaFaults.{SchemaFaults}
use Rattle.gql_engine.specs.Meant.{IsNoDocument}
use Rattle.gql_engine.specs.declared.answer_error.AnswerError.{AnswerError}
use Rattle.gql_engine.specs.declared.answer_error.AnswerError.TheVariants as error
use Rattle.gql_engine.specs.declared.answer_error.RequestKind.{RequestKind}
use Rattle.gql_engine.specs.declared.answer_error.RequestKind.TheVariants as kind
use Rattle.gql_engine.specs.declared.response_bytes.Written.{Written}
use Rattle.gql_engine.specs.Answered.{Answered, AnswerLooks, errors_in}
use Rattle.gql_engine.specs.Unanswered.{IsUnchosen, IsTooDeep, IsUncoerced}
use Rattle.gql_engine.specs.Wanted.{Wanted}

-- why a step of the request fails, with the error that tells it
abbrev pub IsRefusedAt : Wanted → RequestKind → GraphQLError → Type 0
IsRefusedAt wanted kind.Operation told = IsUnchosen wanted told
IsRefusedAt wanted kind.Depth told = IsTooDeep wanted told
IsRefusedAt wanted kind.Variable told = IsUncoerced wanted told

-- the cause of each refusal of what is wanted; no text of variables is in its way
abbrev pub HasCauseOf : Wanted → AnswerError → Type 0
HasCauseOf wanted (error.Variables fault) = ⊥
HasCauseOf wanted (error.Schema list) = SchemaFaults wanted.schema list
HasCauseOf wanted (error.Document list) = IsNoDocument wanted.schema wanted.query list
HasCauseOf wanted (error.Request step told) = IsRefusedAt wanted step told
HasCauseOf wanted error.Memory = Unit {0}

-- what holds of what is given, or the cause of a refusal
abbrev pub OrCause : {A : Type 0} → Wanted → (A → Type 0) → Result A AnswerError → Type 0
OrCause wanted Holds (Ok given) = Holds given
OrCause wanted Holds (Err refusal) = HasCauseOf wanted refusal

-- the bytes are the response, the number is that of its errors, and these looks were counted for it
pub record Responds {X : Type 0} (type_of : X → List ℕ) (resolves : Resolving X) (root : X) (wanted : Wanted)
    (before after : ℕ) (written : Written) : Type 0 where
  pub answered : Answered type_of resolves root wanted written.bytes
  pub errors : written.errors ≡ errors_in answered
  pub looks : AnswerLooks answered before after

-- the bytes are the response, and these looks were counted for it
pub record AnsweredWithin {X : Type 0} (type_of : X → List ℕ) (resolves : Resolving X) (root : X) (wanted : Wanted) (before after : ℕ)
    (bytes : List ℕ) : Type 0 where
  pub answered : Answered type_of resolves root wanted bytes
  pub looks : AnswerLooks answered before after
