-- What only private clauses and proofs cite, beside `Asked`.
use Rattle.std.specs.Prelude.{◌≡◌, ℕ, List, []}
use Rattle.gql_document_types.specs.declared.selection.Selection.{Selection}
use Rattle.gql_exec.specs.Request.{Request}
use Rattle.gql_exec.specs.RequestWorld.{plain_world}
use Rattle.gql_schema_types.specs.declared.types.ObjectType.{ObjectType}
use Rattle.gql_rounds.specs.Known.{Known}
use Rattle.gql_rounds.specs.Levels.{level}
use Rattle.gql_rounds.specs.Wanted.{root_stand}
use Rattle.gql_rounds.specs.bridge.Wanted.{all_noted, wanted_above}
use Rattle.gql_rounds.specs.declared.ask.Ask.{Ask}

module _ (r : Request Known) (root : ObjectType) (selections : List Selection) where
  -- noted level by level, down to one that is empty
  pub record AreFound (asks : List (List ℕ × Ask)) : Type 0 where
    pub depth : ℕ
    pub ends : level (plain_world r) (root_stand root selections) depth ≡ []
    pub are : asks ≡ all_noted [] (wanted_above r (root_stand root selections) depth)
