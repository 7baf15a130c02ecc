-- The nodes of the data of a response.
use Rattle.std.specs.Prelude.{◌≡◌, ℕ, List, [], ◌∷◌, Option}
use Rattle.gql_document_types.specs.declared.selection.Selection.{Selection}
use Rattle.gql_exec.specs.Request.{Request}
use Rattle.gql_exec.specs.RequestWorld.{plain_world}
use Rattle.gql_resolvers.specs.Depth.{Suffices}
use Rattle.gql_resolvers.specs.Execute.{Member}
use Rattle.gql_schema_types.specs.declared.types.ObjectType.{ObjectType}
use Rattle.gql_cost.specs.Nodes.{nodes}

-- the data have so many, with nothing cut off
pub record HasNodes {X : Type 0} (r : Request X) (root : ObjectType) (initial : X) (selections : List Selection) (members : Option (List Member)) (count : ℕ)
    : Type 0 where
  pub depth : ℕ
  pub enough : Suffices (plain_world r) depth root (selections ∷ [])
  pub is : count ≡ nodes (plain_world r) depth root initial (selections ∷ []) members
