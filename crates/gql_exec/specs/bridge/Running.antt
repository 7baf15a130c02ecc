-- What only private clauses and proofs cite, beside `Running`.
use Rattle.std.specs.Prelude.{ℕ, List, Option, Bool, true, false, Result, Ok, Err}
use Rattle.jb_text.specs.declared.refused.Refused.{Refused}
use Rattle.gql_response.specs.declared.request_error.RequestError.{RequestError}
use Rattle.gql_response.specs.declared.execution_response.ExecutionResponse.{ExecutionResponse}
use Rattle.gql_exec.specs.Thing.{of_user, type_of_thing}
use Rattle.gql_exec.specs.ThingMeaning.{Resolving, thing_meaning}
use Rattle.gql_resolvers.specs.Execute.{Member}
use Rattle.gql_exec.specs.Execution.{Prepared, prepared}
use Rattle.gql_exec.specs.bridge.Execution.{IsCounted}
use Rattle.gql_exec.specs.bridge.Output.{Finds}
use Rattle.gql_exec.specs.declared.executed.Executed.{Executed}
use Rattle.gql_exec.specs.declared.execution.Execution.{Execution}

abbrev pub response_of : {V : Type 0} → Executed V → Option (List Member) → ExecutionResponse
response_of executed found = record { errors = executed.errors; root = found }

-- the members that are made are those of a response to what is executed, with its looks; or the request is refused
abbrev pub IsRun : {X V : Type 0} → (Option V → Option (List Member) → Type 0) → Execution → (X → List ℕ) → Resolving X → X
    → (before after : ℕ) → Result Prepared RequestError → Result (Executed V) (Refused RequestError) → Type 0
IsRun Are execution types resolves x before after wanted (Ok executed) =
    Finds (Are executed.members) (λ found. IsCounted execution types resolves x before after wanted (Ok (response_of executed found)))
IsRun Are execution types resolves x before after wanted (Err refused) = IsCounted execution types resolves x before after wanted (Err refused)

-- over objects of one kind
abbrev pub RunsOver : {X V : Type 0} → (Option V → Option (List Member) → Type 0) → Execution → (X → List ℕ) → Resolving X → X
    → (before after : ℕ) → Result (Executed V) (Refused RequestError) → Type 0
RunsOver Are execution types resolves x before after answer = IsRun Are execution types resolves x before after (prepared execution) answer

abbrev pub RunsBy : {X V : Type 0} → (Option V → Option (List Member) → Type 0) → Bool → Execution → (X → List ℕ) → Resolving X → X
    → (before after : ℕ) → Result (Executed V) (Refused RequestError) → Type 0
RunsBy Are true execution types resolves x before after answer =
    RunsOver Are execution (type_of_thing types) (thing_meaning resolves) (of_user execution.schema.now x) before after answer
RunsBy Are false execution types resolves x before after answer = RunsOver Are execution types resolves x before after answer

-- over the user's objects; and with introspection over these and its own
abbrev pub Runs : {X V : Type 0} → (Option V → Option (List Member) → Type 0) → Execution → (X → List ℕ) → Resolving X → X
    → (before after : ℕ) → Result (Executed V) (Refused RequestError) → Type 0
Runs Are execution types resolves x before after answer = RunsBy Are execution.introspection execution types resolves x before after answer
