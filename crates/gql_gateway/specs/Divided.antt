-- An operation that is divided: what asks for the schema is executed here, and the rest at another place (sections 4 and 6 of GraphQL
-- October 2021).
use Rattle.std.specs.Prelude.{◌≡◌, ◌≤◌, ◌<◌, ℕ, List, [], ◌∷◌, Some, Result, Ok, Err}
use Rattle.jb_text.specs.declared.refused.Refused.{Refused}
use Rattle.jb_text.specs.declared.refused.Refused.TheVariants as refused
use Rattle.gql_ast_base.specs.Names.{Named}
use Rattle.gql_collect.specs.Collected.{setting}
use Rattle.gql_document_types.specs.Count.{count}
use Rattle.gql_document_types.specs.Expanded.{expanded, expanded_operation}
use Rattle.gql_document_types.specs.declared.document.ExecutableDocument.{ExecutableDocument}
use Rattle.gql_document_types.specs.declared.operation.Operation.{Operation}
use Rattle.gql_document_types.specs.declared.selection.Selection.{Selection}
use Rattle.gql_exec.specs.IntrospectedRequest.{partial_request}
use Rattle.gql_exec.specs.Thing.{of_user}
use Rattle.gql_exec.specs.Request.{Members}
use Rattle.gql_exec.specs.Response.{IsExecuted}
use Rattle.gql_response.specs.declared.execution_response.ExecutionResponse.{ExecutionResponse}
use Rattle.gql_schema_types.specs.Schemas.{object_of}
use Rattle.gql_schema_types.specs.declared.schema.Schema.{Schema}
use Rattle.gql_schema_types.specs.declared.types.ObjectType.{ObjectType}
use Rattle.gql_gateway.specs.Concrete.{concrete, concrete_operation}
use Rattle.gql_gateway.specs.Joined.{joined, keys_on, no_members}
use Rattle.gql_gateway.specs.Remote.{Telling}
use Rattle.gql_gateway.specs.declared.dividing.DivideFault.{DivideFault}
use Rattle.gql_gateway.specs.declared.dividing.DivideFault.TheVariants.{TooLarge, Remote, MissingKey}
use Rattle.gql_gateway.specs.declared.dividing.TheConstants.{MOST_SELECTIONS}

-- ---- an operation that names no fragments

-- the response of what asks for the schema, from a root object that leaves every field of its own out
pub record IsOfHere (schema : Schema) (document : ExecutableDocument) (operation : Operation) (variables : Members) (here : ExecutionResponse)
    : Type 0 where
  pub root_type : ObjectType
  pub is_root : object_of schema operation.selection_set.ty.text ≡ Some root_type
  pub executed :
      IsExecuted (partial_request schema document.sources document.fragments variables) root_type (of_user schema tt)
      operation.selection_set.selections here

-- the response of the other place: to these selections, what is left without the fields that ask for the schema; none where none is left
abbrev pub IsOfLeft : Telling → Schema → ExecutableDocument → Operation → Members → List Selection → ExecutionResponse → Type 0
IsOfLeft tells schema document operation variables [] there = there ≡ no_members
IsOfLeft tells schema document operation variables (x ∷ xs) there = tells schema document (concrete_operation operation) variables there

abbrev pub IsOfThere : Telling → Schema → ExecutableDocument → Operation → Members → ExecutionResponse → Type 0
IsOfThere tells schema document operation variables there =
    IsOfLeft tells schema document operation variables (concrete operation.selection_set.selections) there

-- both joined, by the response keys of the root
pub record IsDivided (tells : Telling) (schema : Schema) (document : ExecutableDocument) (operation : Operation) (variables : Members)
    (answer : Result ExecutionResponse Named) : Type 0 where
  pub here : ExecutionResponse
  pub is_here : IsOfHere schema document operation variables here
  pub there : ExecutionResponse
  pub is_there : IsOfThere tells schema document operation variables there
  pub is :
      joined (keys_on (setting document.fragments schema is_here.root_type variables) operation.selection_set.selections) here there ≡ answer

-- ---- any operation: the one in which each spread is replaced is divided, unless it has more selections than are allowed

abbrev pub count_of : ExecutableDocument → Operation → ℕ
count_of document operation = count (expanded document.fragments operation.selection_set.selections)

abbrev pub IsLarge : ExecutableDocument → Operation → Type 0
IsLarge document operation = MOST_SELECTIONS < count_of document operation

abbrev pub IsWithin : ExecutableDocument → Operation → Type 0
IsWithin document operation = count_of document operation ≤ MOST_SELECTIONS

pub record Divides (tells : Telling) (schema : Schema) (document : ExecutableDocument) (operation : Operation) (variables : Members)
    (answer : Result ExecutionResponse Named) : Type 0 where
  pub within : IsWithin document operation
  pub divided : IsDivided tells schema document (expanded_operation document.fragments operation) variables answer

-- the joined response, or why there is none; that the other place met a fault is told where this holds; want of memory is free
abbrev pub DividesTo : Telling → Type 0 → Schema → ExecutableDocument → Operation → Members → Result ExecutionResponse (Refused DivideFault)
    → Type 0
DividesTo tells Failed schema document operation variables (Ok response) = Divides tells schema document operation variables (Ok response)
DividesTo tells Failed schema document operation variables (Err (refused.Fault TooLarge)) = IsLarge document operation
DividesTo tells Failed schema document operation variables (Err (refused.Fault Remote)) = IsWithin document operation × Failed
DividesTo tells Failed schema document operation variables (Err (refused.Fault (MissingKey key))) =
    Divides tells schema document operation variables (Err key)
DividesTo tells Failed schema document operation variables (Err refused.Memory) = Unit {0}

-- the other place is not asked before this is refused
abbrev pub IsBeforeRemote : Refused DivideFault → Type 0
IsBeforeRemote (refused.Fault TooLarge) = Unit {0}
IsBeforeRemote refusal = ⊥

-- nothing is left for the other place: each field at the root asks for the schema
abbrev pub LeavesNothing : ExecutableDocument → Operation → Type 0
LeavesNothing document operation = concrete (expanded document.fragments operation.selection_set.selections) ≡ []
