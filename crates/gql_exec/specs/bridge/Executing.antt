-- What only private clauses and proofs cite, beside `Executing`.
use Rattle.std.specs.Prelude.{ℕ, List}
use Rattle.gql_document_types.specs.declared.selection.Selection.{Selection}
use Rattle.gql_schema_types.specs.declared.types.ObjectType.{ObjectType}
use Rattle.gql_resolvers.specs.World.{World}
use Rattle.gql_exec.specs.Group.{Group}
use Rattle.gql_exec.specs.Request.{Request}
use Rattle.gql_exec.specs.RequestWorld.{plain_world}
use Rattle.gql_exec.specs.declared.executing.Executing.{Executing}
use Rattle.gql_exec.specs.Executing.{Resolving, request_by}

abbrev pub request_of : {X : Type 0} → Executing → (X → List ℕ) → Resolving X → Request X
request_of executing types resolves =
    request_by executing.introspection executing.request.schema.now executing.request.document.now executing.variables.now types resolves

abbrev pub world_of : {X : Type 0} → Executing → (X → List ℕ) → Resolving X → World X ObjectType Group (List (List Selection))
world_of executing types resolves = plain_world (request_of executing types resolves)
