-- The response to an operation: sections 6.2 and 7.1 of GraphQL October 2021.
use Rattle.std.specs.Prelude.{◌≡◌, ℕ, List, [], ◌∷◌, Contains}
use Rattle.std.specs.List.{AllByRecursion}
use Rattle.gql_document_types.specs.declared.selection.Selection.{Selection}
use Rattle.gql_response.specs.declared.execution_response.ExecutionResponse.{ExecutionResponse}
use Rattle.gql_schema_types.specs.declared.types.ObjectType.{ObjectType}
use Rattle.gql_resolvers.specs.Depth.{Suffices}
use Rattle.gql_resolvers.specs.Distinct.{DistinctPaths}
use Rattle.gql_resolvers.specs.Execute.{execute}
use Rattle.gql_resolvers.specs.Explained.{IsTrueFault, IsExplainedBy}
use Rattle.gql_resolvers.specs.Skips.{ReachesNoSkip}
use Rattle.gql_exec.specs.Request.{Request}
use Rattle.gql_exec.specs.RequestWorld.{plain_world}

module _ {X : Type 0} (r : Request X) (root : ObjectType) (initial : X) (selections : List Selection) where
  abbrev pub response_at : ℕ → ExecutionResponse
  response_at depth = let made = execute (plain_world r) depth root initial [] (selections ∷ []) in record { errors = made.1; root = made.0 }

  -- the response is exactly what execution gives, with nothing cut off
  pub record IsExecuted (response : ExecutionResponse) : Type 0 where
    pub depth : ℕ
    pub enough : Suffices (plain_world r) depth root (selections ∷ [])
    pub is : response ≡ response_at depth

  -- each listed error is a true fault, and no two have one path; and the errors and the data explain each other where nothing
  -- that is reached is left out
  pub record IsExplained (response : ExecutionResponse) : Type 0 where
    pub true_faults : AllByRecursion (IsTrueFault (plain_world r) root initial (selections ∷ [])) response.errors
    pub distinct : DistinctPaths response.errors
    pub explained : ReachesNoSkip (plain_world r) root initial (selections ∷ [])
        → IsExplainedBy (plain_world r) root initial (selections ∷ []) (Contains response.errors) response.root
