-- What a response is judged by: what the texts mean, the operation that is wanted with its coerced variables, and the resolvers.
use Rattle.std.specs.Prelude.{ℕ, List, [], unwrap_or}
use Rattle.gql_engine.specs.Answered.{Answered}
use Rattle.gql_engine.specs.Ready.{Ready}
use Rattle.gql_engine.specs.Reply.{root_of, wanted_of}
use Rattle.gql_engine.specs.Wanted.{Wanted}
use Rattle.gql_exec.specs.ThingMeaning.{Resolving}
use Rattle.gql_engine.specs.Request.{Asked}
use Rattle.gql_resolvers.specs.DataMeaning.{data_meaning}
use Rattle.gql_response.specs.Reading.{response_read}
use Rattle.gql_response.specs.declared.execution_response.ExecutionResponse.{ExecutionResponse}
use Rattle.gql_response_check.specs.Verdict.{IsVerdictBy}
use Rattle.gql_response_check.specs.declared.verdict.Verdict.{Verdict}

-- nothing is in the way of an execution, and this is the verdict on the bytes of what is said to be its response
pub record IsJudged {X : Type 0} (type_of : X → List ℕ) (resolves : Resolving X) (root : X) (wanted : Wanted) (response : List ℕ)
    (it : Verdict) : Type 0 where
  pub ready : Ready wanted
  pub judged :
      IsVerdictBy wanted.introspection ready.meant.schema ready.meant.document ready.operation ready.variables type_of resolves root
      (response_read response) it

-- the text of the response that comes with a request
abbrev pub response_text : Asked → List ℕ
response_text request = unwrap_or request.response []

-- the verdict on that, by the request's own data
abbrev pub IsJudgedAs : Asked → Verdict → Type 0
IsJudgedAs request it = IsJudged (λ object. object.type_name) data_meaning (root_of request) (wanted_of request) (response_text request) it

-- the response that an answer is
abbrev pub response_of : {X : Type 0} {type_of : X → List ℕ} {resolves : Resolving X} {root : X} {wanted : Wanted} {bytes : List ℕ}
    → Answered type_of resolves root wanted bytes → ExecutionResponse
response_of answered = answered.executed.response
