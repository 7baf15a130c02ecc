-- How many selections an execution looks at.
use Rattle.std.specs.Prelude.{◌≤◌, ◌+◌, ◌*◌, ℕ, List, [], ◌∷◌, length}
use Rattle.std.specs.List.{AllByRecursion}
use Rattle.gql_document_types.specs.declared.selection.Selection.{Selection}
use Rattle.gql_schema_types.specs.declared.types.ObjectType.{ObjectType}
use Rattle.gql_collect.specs.Lists.{AreApart}
use Rattle.gql_collect.specs.Room.{all_selections}
use Rattle.gql_collect.specs.Ways.{Way}
use Rattle.gql_exec.specs.Request.{Request}
use Rattle.gql_exec.specs.RequestWorld.{plain_world}
use Rattle.gql_exec.specs.Opened.{Opens}

-- At least those of the operation's own set. At most all selections of the operation and the fragments, at every depth, once for
-- each of some ways from the root: all of them are opened, and no two are alike.
pub record AreLooks {X : Type 0} (r : Request X) (root : ObjectType) (initial : X) (selections : List Selection) (before after : ℕ) : Type 0 where
  pub least : before + length selections ≤ after
  pub ways : List Way
  pub apart : AreApart ways
  pub opened : AllByRecursion (λ way. Opens (plain_world r) way root initial (selections ∷ [])) ways
  pub most : after ≤ before + length ways * all_selections r.fragments selections
