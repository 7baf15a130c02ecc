-- The response to an operation that is not divided: executed with introspection on (sections 4 and 6 of GraphQL October 2021).
use Rattle.std.specs.Prelude.{◌≡◌, ℕ, List, Some}
use Rattle.gql_collect.specs.Collected.{setting}
use Rattle.gql_document_types.specs.Spreads.{AreAcyclic}
use Rattle.gql_document_types.specs.declared.document.ExecutableDocument.{ExecutableDocument}
use Rattle.gql_document_types.specs.declared.operation.Operation.{Operation}
use Rattle.gql_exec.specs.IntrospectedRequest.{introspected_request}
use Rattle.gql_exec.specs.Restricted.{HasNoOwn}
use Rattle.gql_exec.specs.Thing.{of_user}
use Rattle.gql_exec.specs.ThingMeaning.{Resolving}
use Rattle.gql_exec.specs.Request.{Members}
use Rattle.gql_exec.specs.Response.{IsExecuted}
use Rattle.gql_resolvers.specs.Execute.{Member}
use Rattle.gql_response.specs.declared.execution_response.ExecutionResponse.{ExecutionResponse}
use Rattle.gql_schema_types.specs.Schemas.{object_of}
use Rattle.gql_schema_types.specs.declared.schema.Schema.{Schema}
use Rattle.gql_schema_types.specs.declared.types.ObjectType.{ObjectType}
use Rattle.gql_gateway.specs.Pure.{IsPure}

-- the root type of an operation
abbrev pub IsRoot : Schema → Operation → ObjectType → Type 0
IsRoot schema operation U = object_of schema operation.selection_set.ty.text ≡ Some U

-- What validation gives, so that a division changes nothing: no fragment leads back to itself; the root type has no field of its own
-- named `__schema` or `__type`; and of each response key of the root all fields have one of the names `__typename`, `__schema` and
-- `__type`, or none has.
pub record IsDivisible (schema : Schema) (document : ExecutableDocument) (operation : Operation) (variables : Members) : Type 0 where
  pub acyclic : AreAcyclic document.fragments
  pub own : (U : ObjectType) → IsRoot schema operation U → HasNoOwn schema U
  pub pure : (U : ObjectType) → IsRoot schema operation U → IsPure (setting document.fragments schema U variables) operation.selection_set.selections

module _ {X : Type 0} (types : X → List ℕ) (resolves : Resolving X) (x : X) (schema : Schema) (document : ExecutableDocument)
    (operation : Operation) (variables : Members) where
  -- exactly what execution on this object gives
  abbrev pub IsExecutedOn : ObjectType → ExecutionResponse → Type 0
  IsExecutedOn U response =
      IsExecuted (introspected_request schema document.sources document.fragments variables types resolves) U (of_user schema x)
      operation.selection_set.selections response

  -- the response is the one of the whole operation, where that has data
  abbrev pub IsWhole : ExecutionResponse → Type 0
  IsWhole response =
      (U : ObjectType) (whole : ExecutionResponse) (members : List Member) → IsRoot schema operation U → IsExecutedOn U whole
      → whole.root ≡ Some members → response ≡ whole
