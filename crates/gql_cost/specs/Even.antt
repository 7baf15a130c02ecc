-- Fields of one response key, each of which has as many lists in one another as its place has.
use Rattle.std.specs.Prelude.{◌≡◌, List, [], ◌∷◌, Some, None}
use Rattle.std.specs.List.{AllByRecursion}
use Rattle.gql_document_types.specs.declared.selection.Field.{Field}
use Rattle.gql_document_types.specs.declared.selection.Selection.{Selection}
use Rattle.gql_collect.specs.Groups.{FieldGroup, applying}
use Rattle.gql_resolvers.specs.Reached.{Reaches}
use Rattle.gql_resolvers.specs.Resolved.{gives_object, answered}
use Rattle.gql_resolvers.specs.Spot.{Spot}
use Rattle.gql_exec.specs.Asks.{definition_on}
use Rattle.gql_exec.specs.Group.{Group}
use Rattle.gql_exec.specs.Request.{Request}
use Rattle.gql_exec.specs.RequestWorld.{plain_world, setting_on}
use Rattle.gql_schema_types.specs.declared.types.ObjectType.{ObjectType}
use Rattle.gql_valid_laws.specs.Covariant.{lists_in}

module _ {X : Type 0} (r : Request X) where
  -- each field of a group on an object type, as where it is selected so as the type has the first
  abbrev pub IsEvenGroup : ObjectType → FieldGroup → Type 0
  IsEvenGroup U g =
      (first : Field) → g.first ≡ Some first
      → AllByRecursion (λ (f : Field). lists_in f.definition.ty ≡ lists_in (definition_on r.schema U first).ty) g.fields

  abbrev pub IsEven : ObjectType → List (List Selection) → Type 0
  IsEven U sets = AllByRecursion (IsEvenGroup U) (applying (setting_on r U) sets)

  -- so it is at the root, and below each object that is reached and fits
  pub record AreEven (root : ObjectType) (initial : X) (selections : List Selection) : Type 0 where
    pub at_root : IsEven root (selections ∷ [])
    pub below : (spot : Spot Group) (x : X) (U : ObjectType) → Reaches (plain_world r) root initial (selections ∷ []) spot (answered (gives_object x))
        → (plain_world r).misfit spot.type (gives_object x) ≡ None → (plain_world r).type_of x ≡ Some U → IsEven U spot.group.pieces
