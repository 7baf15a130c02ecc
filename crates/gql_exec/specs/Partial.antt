-- What an operation asks of the schema alone: section 4 of GraphQL October 2021.
use Rattle.std.specs.Prelude.{◌≡◌, Option, Some, None, Result, Ok, Err}
use Rattle.jb_text.specs.declared.refused.Refused.{Refused}
use Rattle.jb_text.specs.declared.refused.Refused.TheVariants.{Fault, Memory}
use Rattle.gql_response.specs.declared.request_error.RequestError.{RequestError}
use Rattle.gql_document_types.specs.declared.document.ExecutableDocument.{ExecutableDocument}
use Rattle.gql_document_types.specs.declared.operation.Operation.{Operation}
use Rattle.gql_response.specs.declared.execution_response.ExecutionResponse.{ExecutionResponse}
use Rattle.gql_schema_types.specs.Schemas.{object_of}
use Rattle.gql_schema_types.specs.declared.schema.Schema.{Schema}
use Rattle.gql_schema_types.specs.declared.types.ObjectType.{ObjectType}
use Rattle.gql_exec.specs.IntrospectedRequest.{partial_request}
use Rattle.gql_exec.specs.Thing.{Thing, of_user}
use Rattle.gql_exec.specs.Request.{Members, Request}
use Rattle.gql_exec.specs.Response.{IsExecuted, IsExplained}
use Rattle.gql_exec.specs.Execution.{undefined_root}

-- the request with introspection on an object that leaves every field out
abbrev pub request_of_schema : Schema → ExecutableDocument → Members → Request (Thing (Unit {0}))
request_of_schema schema document variables = partial_request schema document.sources document.fragments variables

-- the response is exactly what execution gives on such a root object, and is explained; or the root type is no object type
abbrev pub IsPartialOn : Schema → ExecutableDocument → Operation → Members → Option ObjectType → Result ExecutionResponse (Refused RequestError)
    → Type 0
IsPartialOn schema document operation variables root (Ok response) =
    (U : ObjectType) × (root ≡ Some U)
    × IsExecuted (request_of_schema schema document variables) U (of_user schema tt) operation.selection_set.selections response
    × IsExplained (request_of_schema schema document variables) U (of_user schema tt) operation.selection_set.selections response
IsPartialOn schema document operation variables root (Err (Fault fault)) = (root ≡ None) × (fault ≡ undefined_root)
IsPartialOn schema document operation variables root (Err Memory) = Unit {0}

abbrev pub IsPartial : Schema → ExecutableDocument → Operation → Members → Result ExecutionResponse (Refused RequestError) → Type 0
IsPartial schema document operation variables answer =
    IsPartialOn schema document operation variables (object_of schema operation.selection_set.ty.text) answer
