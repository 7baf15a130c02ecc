-- What an execution answers and how it counts, with introspection and without.
use Rattle.std.proofs.Common.{◌≡◌, ℕ, List, Option, Some, None, Bool, true, false, Result, Ok, Err, sym, ap, ◌∙◌}
use Rattle.jb_text.specs.declared.refused.Refused.{Refused}
use Rattle.jb_text.specs.declared.refused.Refused.TheVariants.{Fault, Memory}
use Rattle.gql_response.specs.declared.request_error.RequestError.{RequestError}
use Rattle.gql_response.specs.declared.execution_response.ExecutionResponse.{ExecutionResponse}
use Rattle.gql_resolvers.specs.Execute.{Member}
use Rattle.gql_exec.specs.Thing.{of_user, type_of_thing}
use Rattle.gql_exec.specs.ThingMeaning.{Resolving, thing_meaning}
use Rattle.gql_exec.specs.Execution.{Prepared, prepared, AnswersBy, Answers, IsAnswer, Looks, CountsBy, Counts}
use Rattle.gql_exec.specs.bridge.Execution.{IsCounted}
use Rattle.gql_exec.specs.bridge.Output.{AreWritten, Finds}
use Rattle.gql_exec.specs.bridge.Running.{Runs, RunsBy, RunsOver, response_of}
use Rattle.gql_exec.specs.declared.executed.Executed.{Executed}
use Rattle.gql_exec.specs.declared.execution.Execution.{Execution}
use Rattle.gql_exec.proofs.Outputs.{finds-as}

module _ {X : Type 0} (execution : Execution) (types : X → List ℕ) (resolves : Resolving X) (x : X) (before after : ℕ) (wanted : Result Prepared RequestError) where
  answer-counted : (answer : Result ExecutionResponse (Refused RequestError)) → IsCounted execution types resolves x before after wanted answer
      → IsAnswer execution types resolves x wanted answer
  answer-counted (Ok response) given = (given.0, given.1, given.2, given.3)
  answer-counted (Err (Fault fault)) given = given
  answer-counted (Err Memory) given = tt

  looks-counted : (answer : Result ExecutionResponse (Refused RequestError)) → IsCounted execution types resolves x before after wanted answer
      → Looks execution types resolves x before after wanted answer
  looks-counted (Ok response) given = (given.0, given.1, given.4)
  looks-counted (Err refused) given = tt

module _ {X V : Type 0} (Are : Option V → Option (List Member) → Type 0) (execution : Execution) (types : X → List ℕ) (resolves : Resolving X) (x : X) (before after : ℕ) where
  -- what is made over objects of one kind
  over : {Y : Type 0} (kinds : Y → List ℕ) (means : Resolving Y) (y : Y) (executed : Executed V) → RunsOver Are execution kinds means y before after (Ok executed)
      → Finds (Are executed.members) (λ found. IsAnswer execution kinds means y (prepared execution) (Ok (response_of executed found))
      × Looks execution kinds means y before after (prepared execution) (Ok (response_of executed found)))
  over kinds means y executed =
      finds-as (Are executed.members) (λ found. IsCounted execution kinds means y before after (prepared execution) (Ok (response_of executed found)))
      (λ found. IsAnswer execution kinds means y (prepared execution) (Ok (response_of executed found)) × Looks execution kinds means y before after (prepared execution) (Ok (response_of executed found)))
      (λ found given. (
        answer-counted execution kinds means y before after (prepared execution) (Ok (response_of executed found)) given,
        looks-counted execution kinds means y before after (prepared execution) (Ok (response_of executed found)) given,
      ))

  -- is a response that answers, with its looks
  abbrev pub IsAnswered : Bool → Executed V → Option (List Member) → Type 0
  IsAnswered b executed found =
      AnswersBy b execution types resolves x (Ok (response_of executed found)) × CountsBy b execution types resolves x before after (Ok (response_of executed found))

  run-by : (b : Bool) (executed : Executed V) → RunsBy Are b execution types resolves x before after (Ok executed) → Finds (Are executed.members) (IsAnswered b executed)
  run-by true executed given = over (type_of_thing types) (thing_meaning resolves) (of_user execution.schema.now x) executed given
  run-by false executed given = over types resolves x executed given

  pub run-answered : (executed : Executed V) → Runs Are execution types resolves x before after (Ok executed) → Finds (Are executed.members) (IsAnswered execution.introspection executed)
  run-answered executed given = run-by execution.introspection executed given

  refused-by : (b : Bool) (why : Refused RequestError) → RunsBy Are b execution types resolves x before after (Err why) → AnswersBy b execution types resolves x (Err why)
  refused-by true why given =
      answer-counted execution (type_of_thing types) (thing_meaning resolves) (of_user execution.schema.now x) before after (prepared execution) (Err why) given
  refused-by false why given = answer-counted execution types resolves x before after (prepared execution) (Err why) given

  pub run-refused : (why : Refused RequestError) → Runs Are execution types resolves x before after (Err why) → Answers execution types resolves x (Err why)
  run-refused why given = refused-by execution.introspection why given

module _ {X : Type 0} (execution : Execution) (types : X → List ℕ) (resolves : Resolving X) (x : X) (before after : ℕ) (why : Refused RequestError) where
  counts-none : (b : Bool) → CountsBy b execution types resolves x before after (Err why)
  counts-none true = tt
  counts-none false = tt

  pub refused-counts : Counts execution types resolves x before after (Err why)
  refused-counts = counts-none execution.introspection

-- the members of a tree are those that are found
pub tree-found : {S : Type 0} (start before : S) (members found : Option (List Member))
    → AreWritten (λ (s t : S) (made all : List Member). (t ≡ s) × (made ≡ all)) start before members found → found ≡ members
tree-found start before (Some made) found are = are.2 ∙ ap (λ (all : List Member). Some all) (sym are.1.1)
tree-found start before None found are = are.1
