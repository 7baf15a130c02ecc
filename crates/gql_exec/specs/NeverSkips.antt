-- Resolvers that leave nothing out, and what is then explained: section 6.4.4 of GraphQL October 2021.
use Rattle.std.specs.Prelude.{ℕ, List, [], ◌∷◌, Contains}
use Rattle.std.specs.List.{AllByRecursion}
use Rattle.gql_document_types.specs.declared.selection.Selection.{Selection}
use Rattle.gql_response.specs.declared.execution_response.ExecutionResponse.{ExecutionResponse}
use Rattle.gql_schema_types.specs.declared.schema.Schema.{Schema}
use Rattle.gql_schema_types.specs.declared.types.ObjectType.{ObjectType}
use Rattle.gql_resolvers.specs.Distinct.{DistinctPaths}
use Rattle.gql_resolvers.specs.Explained.{IsTrueFault, IsExplainedBy}
use Rattle.gql_resolvers.specs.Skips.{SkipsNothing}
use Rattle.gql_exec.specs.Executing.{Resolving}
use Rattle.gql_exec.specs.Request.{Members, Request}
use Rattle.gql_exec.specs.RequestWorld.{plain_world}

-- no answer of theirs has a value that is to be left out, at any depth of lists
abbrev pub NeverSkips : {X : Type 0} → Resolving X → Type 0
NeverSkips {X = X} resolves =
    (schema : Schema) (T : ObjectType) (x : X) (f : List ℕ) (arguments : Members) → SkipsNothing (resolves schema T x f arguments)

-- the same of what a request is answered by
abbrev pub IsNeverSkipped : {X : Type 0} → Request X → Type 0
IsNeverSkipped {X = X} r = (T : ObjectType) (x : X) (f : List ℕ) (arguments : Members) → SkipsNothing (r.answers T x f arguments)

-- each listed error is a true fault, no two have one path, and the errors and the data explain each other
pub record IsFullyExplained {X : Type 0} (r : Request X) (root : ObjectType) (initial : X) (selections : List Selection)
    (response : ExecutionResponse) : Type 0 where
  pub true_faults : AllByRecursion (IsTrueFault (plain_world r) root initial (selections ∷ [])) response.errors
  pub distinct : DistinctPaths response.errors
  pub explained : IsExplainedBy (plain_world r) root initial (selections ∷ []) (Contains response.errors) response.root
