-- What an execution makes in an output is what a response says.
use Rattle.std.specs.Prelude.{◌≡◌, ℕ, List, Result, Ok, Err}
use Rattle.jb_text.specs.declared.refused.Refused.{Refused}
use Rattle.jb_print.specs.Compact.{compact}
use Rattle.gql_response.specs.declared.request_error.RequestError.{RequestError}
use Rattle.gql_response.specs.Response.{data_value}
use Rattle.gql_response.specs.declared.execution_response.ExecutionResponse.{ExecutionResponse}
use Rattle.gql_exec.specs.ThingMeaning.{Resolving}
use Rattle.gql_exec.specs.Execution.{Answers, Counts}
use Rattle.gql_exec.specs.declared.execution.Execution.{Execution}
use Rattle.gql_exec.specs.declared.written_response.WrittenResponse.{WrittenResponse}

-- what is written is this response
pub record IsPrintedIn (response : ExecutionResponse) (written : WrittenResponse) : Type 0 where
  pub errors : written.errors ≡ response.errors
  pub text : written.data ≡ compact (data_value response.root)

-- a response that answers, with its looks
pub record IsWrittenAnswer {X : Type 0} (execution : Execution) (types : X → List ℕ) (resolves : Resolving X) (x : X) (before after : ℕ)
    (written : WrittenResponse) : Type 0 where
  pub response : ExecutionResponse
  pub printed : IsPrintedIn response written
  pub answer : Answers execution types resolves x (Ok response)
  pub looks : Counts execution types resolves x before after (Ok response)

abbrev pub AnswersWritten : {X : Type 0} → Execution → (X → List ℕ) → Resolving X → X → (before after : ℕ)
    → Result WrittenResponse (Refused RequestError) → Type 0
AnswersWritten execution types resolves x before after (Ok written) = IsWrittenAnswer execution types resolves x before after written
AnswersWritten execution types resolves x before after (Err refused) = Answers execution types resolves x (Err refused)
