-- The way to the root, and to a place below another.
use Rattle.std.proofs.Common.{◌≡◌, ℕ, [], ◌∷◌, Bor, ap, sym, ◌∙◌}
use Rattle.gql_ast_base.specs.declared.type_ref.TypeRef.{TypeRef}
use Rattle.gql_response.specs.declared.path.ResponseDataPathSegment.TheVariants.{ListIndex}
use Rattle.gql_resolvers.specs.Spot.{Spot, item_spot, trail}
use Rattle.gql_resolvers.specs.Trail.{Trail}
use Rattle.gql_resolvers.specs.Types.{item_type}
use Rattle.gql_exec.specs.Group.{Group}
use Rattle.gql_exec.specs.Trails.{group_of}
use Rattle.gql_exec.specs.bridge.Trails.{segment_of, trail_step, trail_of, spot_of}
use Rattle.gql_exec.specs.declared.path.Path.{Path, fold-roll-Path}
use Rattle.gql_exec.specs.declared.path.Path.TheOpen as layer
use Rattle.gql_exec.specs.declared.path.Path.TheVariants.{Root, Below, rolls-Root, rolls-Below}
use Rattle.gql_exec.specs.declared.path.Step.{Step}
use Rattle.gql_exec.specs.declared.place.Place.{Place}

pub trail-root : trail_of Root ≡ []
trail-root = ap trail_of (sym rolls-Root) ∙ fold-roll-Path Trail trail_step layer.Root

pub trail-below : (parent : Bor Path) (step : Step) (ty : Bor TypeRef) → trail_of (Below parent step ty) ≡ (segment_of step, ty.now) ∷ trail_of parent.now
trail-below parent step ty = ap trail_of (sym (rolls-Below parent step ty)) ∙ fold-roll-Path Trail trail_step (layer.Below parent step ty)

-- the way to a place
pub trail-place : (place : Place) → trail_of (Below place.around place.step place.ty) ≡ trail (spot_of place)
trail-place place = trail-below place.around place.step place.ty

abbrev pub item_in : Trail → ℕ → TypeRef → Group → Spot Group
item_in outer i ty group = record { around = outer; step = ListIndex i; type = ty; group = group }

-- the place of an item of the list at a place, as the code has it
pub item-place : (list : Place) (i : ℕ) (ty : TypeRef) → ty ≡ item_type list.ty.now
    → item_in (trail_of (Below list.around list.step list.ty)) i ty (group_of list.group.now) ≡ item_spot (spot_of list) i
item-place list i ty is =
    ap (λ (t : Trail). item_in t i ty (group_of list.group.now)) (trail-place list)
    ∙ ap (λ (u : TypeRef). item_in (trail (spot_of list)) i u (group_of list.group.now)) is
