-- What a response costs, the lists that are reached for it, and the nodes of its data.
use Rattle.std.specs.Prelude.{ℕ, Bool, true, false, List, [], ◌∷◌}
use Rattle.gql_document_types.specs.declared.document.ExecutableDocument.{ExecutableDocument}
use Rattle.gql_document_types.specs.declared.operation.Operation.{Operation}
use Rattle.gql_exec.specs.Thing.{of_user, type_of_thing}
use Rattle.gql_exec.specs.ThingMeaning.{Resolving, thing_meaning}
use Rattle.gql_exec.specs.Executing.{request_by}
use Rattle.gql_exec.specs.RequestWorld.{plain_world}
use Rattle.gql_response.specs.declared.execution_response.ExecutionResponse.{ExecutionResponse}
use Rattle.gql_schema_types.specs.declared.schema.Schema.{Schema}
use Rattle.gql_schema_types.specs.declared.types.ObjectType.{ObjectType}
use Rattle.gql_engine.specs.Answered.{Answered}
use Rattle.gql_engine.specs.Ready.{Ready}
use Rattle.gql_engine.specs.Wanted.{Members, Wanted}
use Rattle.gql_cost.specs.HasNodes.{HasNodes}
use Rattle.gql_cost.specs.Short.{AreShort}
use Rattle.gql_cost.specs.Sum.{cost}

-- what the operation costs that is ready to be executed, where no list has more items than that
abbrev pub cost_of : {wanted : Wanted} → ℕ → Ready wanted → ℕ
cost_of items ready = cost items ready.meant.document.fragments ready.operation.selection_set.selections

module _ {X : Type 0} (type_of : X → List ℕ) (resolves : Resolving X) (root : X) (schema : Schema) (document : ExecutableDocument)
    (operation : Operation) (variables : Members) (root_type : ObjectType) where
  -- No list that is reached and fits has more items than that: of those that the resolver gives, and with introspection of those too
  -- that tell of the schema.
  abbrev pub AreShortBy : ℕ → Bool → Type 0
  AreShortBy items true =
      AreShort items (plain_world (request_by true schema document variables (type_of_thing type_of) (thing_meaning resolves))) root_type
      (of_user schema root) (operation.selection_set.selections ∷ [])
  AreShortBy items false =
      AreShort items (plain_world (request_by false schema document variables type_of resolves)) root_type root
      (operation.selection_set.selections ∷ [])

  -- the response's data have so many nodes
  abbrev pub HasNodesBy : ℕ → Bool → ExecutionResponse → Type 0
  HasNodesBy count true response =
      HasNodes (request_by true schema document variables (type_of_thing type_of) (thing_meaning resolves)) root_type (of_user schema root)
      operation.selection_set.selections response.root count
  HasNodesBy count false response =
      HasNodes (request_by false schema document variables type_of resolves) root_type root operation.selection_set.selections response.root count

module _ {X : Type 0} {type_of : X → List ℕ} {resolves : Resolving X} {root : X} {wanted : Wanted} {bytes : List ℕ}
    (answered : Answered type_of resolves root wanted bytes) where
  -- the same of a response that was written
  abbrev pub HasShortLists : ℕ → Type 0
  HasShortLists items =
      AreShortBy type_of resolves root answered.ready.meant.schema answered.ready.meant.document answered.ready.operation
      answered.ready.variables answered.executed.root_type items wanted.introspection

  abbrev pub HasDataNodes : ℕ → Type 0
  HasDataNodes count =
      HasNodesBy type_of resolves root answered.ready.meant.schema answered.ready.meant.document answered.ready.operation
      answered.ready.variables answered.executed.root_type count wanted.introspection answered.executed.response
