-- Answers that are no fault which validation should have found: sections 6.4.3 and 6.4.4 of GraphQL October 2021.
use Rattle.std.specs.Prelude.{◌≡◌, false, List, [], ◌∷◌, Some}
use Rattle.gql_document_types.specs.declared.selection.Selection.{Selection}
use Rattle.gql_exec.specs.Group.{Group}
use Rattle.gql_exec.specs.Request.{Request}
use Rattle.gql_exec.specs.RequestWorld.{plain_world}
use Rattle.gql_resolvers.specs.Reached.{Reaches}
use Rattle.gql_resolvers.specs.Resolved.{Meaning, Misfit, answered}
use Rattle.gql_resolvers.specs.Spot.{Spot}
use Rattle.gql_schema_types.specs.declared.types.ObjectType.{ObjectType}

-- what is wrong with an answer at a place that is reached is not marked
abbrev pub LeavesNoMark : {X : Type 0} → Request X → ObjectType → X → List Selection → Type 0
LeavesNoMark {X = X} r root initial selections =
    (spot : Spot Group) (answer : Meaning X) (found : Misfit) → Reaches (plain_world r) root initial (selections ∷ []) spot (answered answer)
    → (plain_world r).misfit spot.type answer ≡ Some found → found.marked ≡ false
