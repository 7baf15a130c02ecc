-- What a valid request executes.
use Rattle.std.specs.Prelude.{◌≡◌, Option, Some, None, Result, Ok, Err}
use Rattle.jb_text.specs.declared.refused.Refused.{Refused}
use Rattle.jb_text.specs.declared.refused.Refused.TheVariants.{Fault}
use Rattle.gql_coerce.specs.Variables.{coerced_variables}
use Rattle.gql_document_types.specs.ChosenOperation.{chosen}
use Rattle.gql_document_types.specs.declared.document.ExecutableDocument.{ExecutableDocument}
use Rattle.gql_engine.specs.AnswerError.{Asks, Call, IsValid}
use Rattle.gql_engine.specs.Answered.{IsRoot}
use Rattle.gql_engine.specs.Depths.{IsShallow}
use Rattle.gql_engine.specs.Ready.{Ready}
use Rattle.gql_engine.specs.Wanted.{Wanted}
use Rattle.gql_document_types.specs.declared.operation.Operation.{Operation}
use Rattle.gql_response.specs.declared.request_error.RequestError.{RequestError}
use Rattle.gql_resolvers.specs.Meaning.{Members}
use Rattle.gql_schema_types.specs.declared.schema.Schema.{Schema}
use Rattle.gql_rounds.specs.declared.ready.Ready.{Ready as ReadyHere}

-- over this schema and this document nothing is in the way of what is wanted, and this is its operation, with its root type and the
-- values of its variables (GraphQL October 2021, section 6.1)
pub record IsReadyBy (wanted : Wanted) (schema : Schema) (document : ExecutableDocument) (ready : ReadyHere) : Type 0 where
  pub is_chosen : chosen wanted.operation_name document.operations ≡ Some ready.operation.now
  pub is_shallow : IsShallow wanted.introspection document ready.operation.now
  pub are_coerced : coerced_variables schema.types ready.operation.now.variables wanted.variables ≡ Ok ready.variables
  pub is_root : IsRoot schema ready.operation.now ready.root_type.now

-- what is found of what is wanted: that, or that something is in its way
abbrev pub FindsReady : Wanted → Schema → ExecutableDocument → Option ReadyHere → Type 0
FindsReady wanted schema document (Some ready) = IsReadyBy wanted schema document ready
FindsReady wanted schema document None = ¬ (Ready wanted)

-- the same of a call
abbrev pub FindsCalled : Call → Schema → ExecutableDocument → Option ReadyHere → Type 0
FindsCalled call schema document (Some ready) = Asks call (λ wanted. IsReadyBy wanted schema document ready)
FindsCalled call schema document None = ¬ (IsValid call)

-- ---- step by step

-- the values of the variables of an operation, with its root type; or that they are not coerced
abbrev pub FindsOperation : Schema → Operation → Members → Option ReadyHere → Type 0
FindsOperation schema operation values (Some ready) =
    (ready.operation.now ≡ operation)
    × (coerced_variables schema.types operation.variables values ≡ Ok ready.variables)
    × IsRoot schema operation ready.root_type.now
FindsOperation schema operation values None = (variables : Members) → ¬ (coerced_variables schema.types operation.variables values ≡ Ok variables)

-- what a step gives, or that it refused
abbrev pub IsPassed : {A : Type 0} → Result A (Refused RequestError) → Option A → Type 0
IsPassed step (Some made) = step ≡ Ok made
IsPassed step None = (fault : RequestError) × (step ≡ Err (Fault fault))
