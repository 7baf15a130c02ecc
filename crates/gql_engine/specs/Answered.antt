-- What a response says.
use Rattle.std.specs.Prelude.{◌≡◌, ◌<◌, ◌≤◌, ◌+◌, ℕ, Bool, true, false, List, length, Some}
use Rattle.jb_print.specs.Compact.{compact}
use Rattle.gql_document_types.specs.declared.document.ExecutableDocument.{ExecutableDocument}
use Rattle.gql_document_types.specs.declared.operation.Operation.{Operation}
use Rattle.gql_exec.specs.Thing.{of_user, type_of_thing}
use Rattle.gql_exec.specs.ThingMeaning.{Resolving, thing_meaning}
use Rattle.gql_exec.specs.Executing.{request_by}
use Rattle.gql_exec.specs.NeverSkips.{NeverSkips, IsFullyExplained}
use Rattle.gql_exec.specs.Looks.{AreLooks}
use Rattle.gql_exec.specs.Response.{IsExecuted, IsExplained}
use Rattle.gql_response.specs.Response.{response_value}
use Rattle.gql_response.specs.declared.execution_response.ExecutionResponse.{ExecutionResponse}
use Rattle.gql_schema_types.specs.Schemas.{object_of}
use Rattle.gql_schema_types.specs.declared.schema.Schema.{Schema}
use Rattle.gql_schema_types.specs.declared.types.ObjectType.{ObjectType}
use Rattle.gql_engine.specs.Depths.{depth_looks}
use Rattle.gql_engine.specs.Ready.{Ready}
use Rattle.gql_engine.specs.Wanted.{Members, Wanted}
use Rattle.gql_engine.specs.declared.response_bytes.Written.{Written}

-- the object type that an operation begins at
abbrev pub IsRoot : Schema → Operation → ObjectType → Type 0
IsRoot schema operation root_type = object_of schema operation.selection_set.ty.text ≡ Some root_type

-- The response is exactly what execution gives, with introspection or without it, from this object on the root type, and its errors
-- and its data are explained (GraphQL October 2021, sections 6 and 7).
pub record IsResponseOver {X : Type 0} (introspection : Bool) (type_of : X → List ℕ) (resolves : Resolving X) (root : X)
    (schema : Schema) (document : ExecutableDocument) (operation : Operation) (variables : Members) (root_type : ObjectType)
    (response : ExecutionResponse) : Type 0 where
  pub executed :
      IsExecuted (request_by introspection schema document variables type_of resolves) root_type root
      operation.selection_set.selections response
  pub explained :
      IsExplained (request_by introspection schema document variables type_of resolves) root_type root
      operation.selection_set.selections response

-- with introspection over the user's objects and those of the library, from the user's object; without it over the user's (section 4)
abbrev pub IsResponseBy : {X : Type 0} → Bool → (X → List ℕ) → Resolving X → X → Schema → ExecutableDocument → Operation → Members
    → ObjectType → ExecutionResponse → Type 0
IsResponseBy true type_of resolves root schema document operation variables root_type response =
    IsResponseOver true (type_of_thing type_of) (thing_meaning resolves) (of_user schema root) schema document operation variables root_type response
IsResponseBy false type_of resolves root schema document operation variables root_type response =
    IsResponseOver false type_of resolves root schema document operation variables root_type response

-- and its errors and its data explain each other, with no premise (section 6.4.4)
abbrev pub IsFullyExplainedBy : {X : Type 0} → Bool → (X → List ℕ) → Resolving X → X → Schema → ExecutableDocument → Operation → Members
    → ObjectType → ExecutionResponse → Type 0
IsFullyExplainedBy true type_of resolves root schema document operation variables root_type response =
    IsFullyExplained (request_by true schema document variables (type_of_thing type_of) (thing_meaning resolves)) root_type (of_user schema root)
    operation.selection_set.selections response
IsFullyExplainedBy false type_of resolves root schema document operation variables root_type response =
    IsFullyExplained (request_by false schema document variables type_of resolves) root_type root operation.selection_set.selections response

-- the looks at selections of that execution
abbrev pub ExecutionLooks : {X : Type 0} → Bool → (X → List ℕ) → Resolving X → X → Schema → ExecutableDocument → Operation → Members
    → ObjectType → (before after : ℕ) → Type 0
ExecutionLooks true type_of resolves root schema document operation variables root_type before after =
    AreLooks (request_by true schema document variables (type_of_thing type_of) (thing_meaning resolves)) root_type (of_user schema root)
    operation.selection_set.selections before after
ExecutionLooks false type_of resolves root schema document operation variables root_type before after =
    AreLooks (request_by false schema document variables type_of resolves) root_type root operation.selection_set.selections before after

-- The bytes are exactly the response of the operation with these variables, and with this object as the root. It is explained without
-- a premise where the user's resolver leaves nothing out.
pub record IsExecutionOf {X : Type 0} (introspection : Bool) (type_of : X → List ℕ) (resolves : Resolving X) (root : X)
    (schema : Schema) (document : ExecutableDocument) (operation : Operation) (variables : Members) (bytes : List ℕ) : Type 0 where
  pub root_type : ObjectType
  pub is_root : IsRoot schema operation root_type
  pub response : ExecutionResponse
  pub is_response : IsResponseBy introspection type_of resolves root schema document operation variables root_type response
  pub in_full : NeverSkips resolves
      → IsFullyExplainedBy introspection type_of resolves root schema document operation variables root_type response
  pub written : bytes ≡ compact (response_value response)

-- nothing is in the way of a response, and the bytes are that of the chosen operation with its coerced variables
pub record Answered {X : Type 0} (type_of : X → List ℕ) (resolves : Resolving X) (root : X) (wanted : Wanted) (bytes : List ℕ) : Type 0 where
  pub ready : Ready wanted
  pub executed : IsExecutionOf wanted.introspection type_of resolves root ready.meant.schema ready.meant.document ready.operation ready.variables bytes

-- The looks at selections, of which there is at least one: those of the depth check, where introspection is on, at most one at each;
-- and then those of the execution.
pub record AnswerLooks {X : Type 0} {type_of : X → List ℕ} {resolves : Resolving X} {root : X} {wanted : Wanted} {bytes : List ℕ}
    (answered : Answered type_of resolves root wanted bytes) (before after : ℕ) : Type 0 where
  pub some : before < after
  pub between : ℕ
  pub rises : before ≤ between
  pub depth : between ≤ before + depth_looks wanted.introspection answered.ready.meant.document answered.ready.operation
  pub execution :
      ExecutionLooks wanted.introspection type_of resolves root answered.ready.meant.schema answered.ready.meant.document answered.ready.operation
      answered.ready.variables answered.executed.root_type between after

-- the response is explained, with no premise
abbrev pub IsAnsweredInFull : {X : Type 0} {type_of : X → List ℕ} {resolves : Resolving X} {root : X} {wanted : Wanted} {bytes : List ℕ}
    → Answered type_of resolves root wanted bytes → Type 0
IsAnsweredInFull {type_of = type_of} {resolves = resolves} {root = root} {wanted = wanted} answered =
    IsFullyExplainedBy wanted.introspection type_of resolves root answered.ready.meant.schema answered.ready.meant.document
    answered.ready.operation answered.ready.variables answered.executed.root_type answered.executed.response

-- how many errors the response has
abbrev pub errors_in : {X : Type 0} {type_of : X → List ℕ} {resolves : Resolving X} {root : X} {wanted : Wanted} {bytes : List ℕ}
    → Answered type_of resolves root wanted bytes → ℕ
errors_in answered = length answered.executed.response.errors

-- ---- with the number of errors

pub record IsResultOf {X : Type 0} (introspection : Bool) (type_of : X → List ℕ) (resolves : Resolving X) (root : X) (schema : Schema)
    (document : ExecutableDocument) (operation : Operation) (variables : Members) (before after : ℕ) (written : Written) : Type 0 where
  pub is : IsExecutionOf introspection type_of resolves root schema document operation variables written.bytes
  pub errors : written.errors ≡ length is.response.errors
  pub looks : ExecutionLooks introspection type_of resolves root schema document operation variables is.root_type before after
