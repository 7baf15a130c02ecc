-- What an execution is of, and what it answers: sections 6.1 and 6.2 of GraphQL October 2021.
use Rattle.std.specs.Prelude.{◌≡◌, ℕ, List, [], Option, Some, None, Bool, true, false, Result, Ok, Err, codes}
use Rattle.std.specs.Borrow.{Bor}
use Rattle.std.specs.Option.{option_copied}
use Rattle.jb_text.specs.declared.refused.Refused.{Refused}
use Rattle.jb_text.specs.declared.refused.Refused.TheVariants.{Fault, Memory}
use Rattle.gql_coerce.specs.Outcome.{told_as}
use Rattle.gql_coerce.specs.Variables.{coerced_variables}
use Rattle.gql_response.specs.declared.request_error.RequestError.{RequestError}
use Rattle.gql_document_types.specs.ChosenOperation.{chosen, why_none, refusal, IsChosen}
use Rattle.gql_document_types.specs.declared.document.ExecutableDocument.{ExecutableDocument}
use Rattle.gql_document_types.specs.declared.operation.Operation.{Operation}
use Rattle.gql_response.specs.declared.execution_response.ExecutionResponse.{ExecutionResponse}
use Rattle.gql_schema_types.specs.Schemas.{object_of}
use Rattle.gql_schema_types.specs.declared.implementers.Implementers.{Implementers}
use Rattle.gql_schema_types.specs.declared.schema.Schema.{Schema}
use Rattle.gql_schema_types.specs.declared.types.ObjectType.{ObjectType}
use Rattle.gql_collect.specs.RequestErrors.{request_error}
use Rattle.gql_exec.specs.Thing.{of_user, type_of_thing}
use Rattle.gql_exec.specs.ThingMeaning.{Resolving, thing_meaning}
use Rattle.gql_exec.specs.Request.{Members, Request}
use Rattle.gql_exec.specs.Response.{IsExecuted, IsExplained}
use Rattle.gql_exec.specs.Executing.{request_by}
use Rattle.gql_exec.specs.Looks.{AreLooks}
use Rattle.gql_exec.specs.declared.execution.Execution.{Execution}
use Rattle.gql_exec.specs.declared.execution.Given.{Given}
use Rattle.gql_exec.specs.declared.execution.Given.TheVariants.{Nothing, Coerced, Raw}

-- ---- how it is told what it is of

abbrev pub started : Bor Schema → Bor ExecutableDocument → Execution
started schema document =
    record { schema = schema; document = document; operation = None; implementers = None; given = Nothing; introspection = false }

abbrev pub with_operation : Execution → Bor Operation → Execution
with_operation execution operation = record execution { operation = Some operation }

abbrev pub with_implementers : Execution → Bor (List (List ℕ × Implementers)) → Execution
with_implementers execution map = record execution { implementers = Some map }

abbrev pub with_values : Execution → Given → Execution
with_values execution given = record execution { given = given }

abbrev pub with_introspection : Execution → Bool → Execution
with_introspection execution enable = record execution { introspection = enable }

abbrev pub HasNoOperation : Execution → Type 0
HasNoOperation execution = execution.operation ≡ None

abbrev pub HasNoImplementers : Execution → Type 0
HasNoImplementers execution = execution.implementers ≡ None

abbrev pub HasNoValues : Execution → Type 0
HasNoValues execution = execution.given ≡ Nothing

-- the execution of the chosen operation, or why there is none
abbrev pub IsOfChosen : Execution → Option (List ℕ) → Result Execution (Refused RequestError) → Type 0
IsOfChosen execution name (Ok made) =
    (operation : Bor Operation) × (chosen name execution.document.now.operations ≡ Some operation.now) × (made ≡ with_operation execution operation)
IsOfChosen execution name (Err refused) = IsChosen name execution.document.now.operations (Err refused)

-- ---- what it answers

abbrev pub chosen_or : List Operation → Option Operation → Result Operation RequestError
chosen_or operations (Some operation) = Ok operation
chosen_or operations None = Err (refusal (why_none None operations))

-- the operation that was set, else the only one, or why there is none
abbrev pub operation_or : List Operation → Option Operation → Result Operation RequestError
operation_or operations (Some operation) = Ok operation
operation_or operations None = chosen_or operations (chosen None operations)

-- the values of the variables: those that were set, else what is given, coerced, or the fault of the first that fails
abbrev pub variables_of : Schema → Operation → Given → Result Members RequestError
variables_of schema operation Nothing = told_as request_error (coerced_variables schema.types operation.variables [])
variables_of schema operation (Coerced values) = Ok values.now
variables_of schema operation (Raw values) = told_as request_error (coerced_variables schema.types operation.variables values.now)

abbrev pub undefined_root : RequestError
undefined_root = record { message = codes "Undefined root operation type"; location = None; is_suspected_validation_bug = true }

-- what is executed
pub record Prepared : Type 0 where
  pub operation : Operation
  pub root : ObjectType
  pub variables : Members

abbrev pub with_variables : Operation → ObjectType → Result Members RequestError → Result Prepared RequestError
with_variables operation root (Ok variables) = Ok (record { operation = operation; root = root; variables = variables })
with_variables operation root (Err fault) = Err fault

abbrev pub on_root : Schema → Given → Operation → Option ObjectType → Result Prepared RequestError
on_root schema given operation (Some root) = with_variables operation root (variables_of schema operation given)
on_root schema given operation None = Err undefined_root

abbrev pub of_operation : Schema → Given → Operation → Result Prepared RequestError
of_operation schema given operation = on_root schema given operation (object_of schema operation.selection_set.ty.text)

abbrev pub of_chosen : Schema → Given → Result Operation RequestError → Result Prepared RequestError
of_chosen schema given (Ok operation) = of_operation schema given operation
of_chosen schema given (Err fault) = Err fault

-- the operation, its root type and its variables, or the first of what refuses the request
abbrev pub prepared : Execution → Result Prepared RequestError
prepared execution =
    of_chosen execution.schema.now execution.given (operation_or execution.document.now.operations (option_copied execution.operation))

-- the request of an execution whose variables have these values
abbrev pub request_in : {X : Type 0} → Execution → Members → (X → List ℕ) → Resolving X → Request X
request_in execution variables types resolves =
    request_by execution.introspection execution.schema.now execution.document.now variables types resolves

-- the response to what is executed is exactly what execution gives, and is explained; or the request is refused
abbrev pub IsAnswer : {X : Type 0} → Execution → (X → List ℕ) → Resolving X → X → Result Prepared RequestError
    → Result ExecutionResponse (Refused RequestError) → Type 0
IsAnswer execution types resolves x wanted (Ok response) =
    (p : Prepared) × (wanted ≡ Ok p)
    × IsExecuted (request_in execution p.variables types resolves) p.root x p.operation.selection_set.selections response
    × IsExplained (request_in execution p.variables types resolves) p.root x p.operation.selection_set.selections response
IsAnswer execution types resolves x wanted (Err (Fault fault)) = wanted ≡ Err fault
IsAnswer execution types resolves x wanted (Err Memory) = Unit {0}

-- over objects of one kind
abbrev pub AnswersOver : {X : Type 0} → Execution → (X → List ℕ) → Resolving X → X → Result ExecutionResponse (Refused RequestError) → Type 0
AnswersOver execution types resolves x answer = IsAnswer execution types resolves x (prepared execution) answer

abbrev pub AnswersBy : {X : Type 0} → Bool → Execution → (X → List ℕ) → Resolving X → X → Result ExecutionResponse (Refused RequestError)
    → Type 0
AnswersBy true execution types resolves x answer =
    AnswersOver execution (type_of_thing types) (thing_meaning resolves) (of_user execution.schema.now x) answer
AnswersBy false execution types resolves x answer = AnswersOver execution types resolves x answer

-- over the user's objects; and with introspection over these and its own, from the user's object under the schema
abbrev pub Answers : {X : Type 0} → Execution → (X → List ℕ) → Resolving X → X → Result ExecutionResponse (Refused RequestError) → Type 0
Answers execution types resolves x answer = AnswersBy execution.introspection execution types resolves x answer

-- ---- how many selections it looks at

-- Where there is a response: the looks at selections from the one count to the other are those of an execution of what is
-- prepared
abbrev pub Looks : {X : Type 0} → Execution → (X → List ℕ) → Resolving X → X → (before after : ℕ) → Result Prepared RequestError
    → Result ExecutionResponse (Refused RequestError) → Type 0
Looks execution types resolves x before after wanted (Ok response) =
    (p : Prepared) × (wanted ≡ Ok p)
    × AreLooks (request_in execution p.variables types resolves) p.root x p.operation.selection_set.selections before after
Looks execution types resolves x before after wanted (Err refused) = Unit {0}

-- over the user's objects; and with introspection over these and its own
abbrev pub CountsBy : {X : Type 0} → Bool → Execution → (X → List ℕ) → Resolving X → X → (before after : ℕ)
    → Result ExecutionResponse (Refused RequestError) → Type 0
CountsBy true execution types resolves x before after answer =
    Looks execution (type_of_thing types) (thing_meaning resolves) (of_user execution.schema.now x) before after (prepared execution) answer
CountsBy false execution types resolves x before after answer = Looks execution types resolves x before after (prepared execution) answer

abbrev pub Counts : {X : Type 0} → Execution → (X → List ℕ) → Resolving X → X → (before after : ℕ)
    → Result ExecutionResponse (Refused RequestError) → Type 0
Counts execution types resolves x before after answer = CountsBy execution.introspection execution types resolves x before after answer
