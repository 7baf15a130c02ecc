-- An execution has one response.
use Rattle.std.proofs.Common.{◌≡◌, List, [], ◌∷◌, sym, ap, ◌∙◌}
use Rattle.gql_document_types.specs.declared.selection.Selection.{Selection}
use Rattle.gql_response.specs.declared.execution_response.ExecutionResponse.{ExecutionResponse}
use Rattle.gql_exec.specs.Request.{Request}
use Rattle.gql_exec.specs.RequestWorld.{plain_world}
use Rattle.gql_exec.specs.Response.{IsExecuted}
use Rattle.gql_resolvers.proofs.OneRun.{one_run}
use Rattle.gql_resolvers.specs.Execute.{Made, Member}
use Rattle.gql_schema_types.specs.declared.types.ObjectType.{ObjectType}

abbrev response_of : Made Member → ExecutionResponse
response_of made = record { errors = made.1; root = made.0 }

pub one-response : {X : Type 0} (r : Request X) (root : ObjectType) (initial : X) (selections : List Selection) (one other : ExecutionResponse)
    → IsExecuted r root initial selections one → IsExecuted r root initial selections other → one ≡ other
one-response r root initial selections one other first second =
    first.is ∙ ap response_of (one_run (plain_world r) first.depth second.depth root (selections ∷ []) first.enough second.enough initial []) ∙ sym second.is
