-- What places answer that execute operations.
use Rattle.std.specs.Prelude.{◌≡◌, ℕ, List, Some, Result, Ok, Err}
use Rattle.gql_document_types.specs.declared.document.ExecutableDocument.{ExecutableDocument}
use Rattle.gql_document_types.specs.declared.operation.Operation.{Operation}
use Rattle.gql_exec.specs.Request.{Members}
use Rattle.gql_exec.specs.Response.{IsExecuted}
use Rattle.gql_exec.specs.IntrospectedRequest.{introspected_request}
use Rattle.gql_exec.specs.Thing.{of_user}
use Rattle.gql_exec.specs.ThingMeaning.{Resolving}
use Rattle.gql_response.specs.declared.execution_response.ExecutionResponse.{ExecutionResponse}
use Rattle.gql_schema_types.specs.Schemas.{object_of}
use Rattle.gql_schema_types.specs.declared.schema.Schema.{Schema}
use Rattle.gql_schema_types.specs.declared.types.ObjectType.{ObjectType}
use Rattle.jb_io.specs.Stream.{HasFailed}
use Rattle.gql_gateway.specs.declared.remote.RemoteError.{RemoteError}
use Rattle.gql_gateway.specs.declared.remote.RemoteError.TheVariants.{Fault, Memory}

-- which responses a place may give to an operation of a document on a schema with these variables, as far as it tells
abbrev pub Telling : Type 1
Telling = Schema → ExecutableDocument → Operation → Members → ExecutionResponse → Type 0

-- a fault is told only where it was counted
abbrev pub IsFault : {A : Type 0} → ℕ → ℕ → Result A RemoteError → Type 0
IsFault before after (Ok response) = Unit {0}
IsFault before after (Err Fault) = HasFailed before after
IsFault before after (Err Memory) = Unit {0}

-- the response is exactly what execution gives on the root type, with introspection on
abbrev pub TellsBy : {X : Type 0} → (X → List ℕ) → Resolving X → X → Schema → ExecutableDocument → Operation → Members → ExecutionResponse
    → Type 0
TellsBy types resolves x schema document operation variables response =
    (U : ObjectType) × (object_of schema operation.selection_set.ty.text ≡ Some U)
    × IsExecuted (introspected_request schema document.sources document.fragments variables types resolves) U (of_user schema x)
    operation.selection_set.selections response
