-- What is found at a list and at an object, after what is found in it.
use Rattle.std.proofs.Common.{◌≡◌, List, Bool, length, Option, None, is_some, Result, sym, ap, ◌∙◌, subst}
use Rattle.jb_tree.specs.declared.value.Value.{Value}
use Rattle.gql_ast_base.specs.TypeParts.{is_non_null}
use Rattle.gql_collect.specs.Grouping.{groups_seen}
use Rattle.gql_collect.specs.Groups.{SameGroups, applying}
use Rattle.gql_collect.specs.declared.group.Group.{Group as FieldsOfKey}
use Rattle.gql_document_types.specs.declared.selection.Selection.{Selection}
use Rattle.gql_exec.proofs.Views.{views}
use Rattle.gql_exec.specs.Group.{Group}
use Rattle.gql_exec.specs.Request.{Request}
use Rattle.gql_exec.specs.RequestWorld.{plain_world, setting_on}
use Rattle.gql_resolvers.specs.Execute.{Member}
use Rattle.gql_resolvers.specs.Meaning.{meanings_by}
use Rattle.gql_resolvers.specs.Resolved.{gives_list}
use Rattle.gql_resolvers.specs.Spot.{Spot, trail}
use Rattle.gql_resolvers.specs.Trail.{Trail, path_of}
use Rattle.gql_resolvers.specs.World.{World}
use Rattle.gql_resolvers.specs.declared.resolve_error.FieldError.{FieldError}
use Rattle.gql_resolvers.specs.declared.resolved_value.ResolvedValue.{ResolvedValue}
use Rattle.gql_schema_types.specs.declared.types.ObjectType.{ObjectType}
use Rattle.gql_checker_laws.specs.Claims.{Claim}
use Rattle.gql_checker_laws.specs.Walk.{array_for, groups_found, items_found, object_for, set_found}
use Rattle.gql_checker_laws.proofs.AlikeFound.{views-members, views-walk}
use Rattle.gql_checker_laws.proofs.Ending.{place-list}
use Rattle.gql_checker_laws.proofs.Finding.{found-as, found-ended}
use Rattle.gql_checker_laws.proofs.Matching.{items-given, members-given}
use Rattle.gql_checker_laws.proofs.Plain.{none-is, plain-items, plain-members}
use Rattle.gql_checker_laws.proofs.Quiet.{items-quiet, set-quiet}
use Rattle.gql_checker_laws.specs.Found.{FindsBelow, FindsGroups, IsFound}
use Rattle.gql_checker_laws.specs.Places.{members_at, own_found, place_found}
use Rattle.gql_checker_laws.specs.Reported.{items_of, members_of}
use Rattle.gql_checker_laws.specs.Findings.{Findings}

-- ---- an object of a type that fits

module _ {X : Type 0} (r : Request X) (U : ObjectType) (groups : List FieldsOfKey) (spot : Spot Group)
    (same : SameGroups (groups_seen groups) (applying (setting_on r U) spot.group.pieces)) (x : X) (v : Option Value) (cs : List Claim) where
  abbrev w : World X ObjectType Group (List (List Selection))
  w = plain_world r

  given-members : members_of groups v ≡ object_for w (w.groups U spot.group.pieces) v
  given-members = members-given r groups v ∙ views-members r U groups spot.group.pieces same v

  pub typed-found : (ms : Option (List Member)) (given : Bool) (outer : Trail) (before between after : Findings) (p q : Bool) → outer ≡ trail spot → ms ≡ members_of groups v
      → given ≡ is_some ms → FindsGroups w (views groups) before between p (λ run. groups_found w run U x outer (views groups) ms cs)
      → IsFound (own_found spot p given v) between after q → FindsBelow w spot.group before after q (λ run. members_at w run spot U x v cs)
  typed-found ms given outer before between after p q at is some finds own depth enough =
      let pieces = spot.group.pieces in
      let members = object_for w (w.groups U pieces) v in
      let walk = views-walk r U groups pieces same depth (enough U) in
      let inner = set_found w depth U x (trail spot) pieces members cs in
      let there : ms ≡ members = is ∙ given-members in
      let inside = found-as _ inner before between p
      (walk.walks x outer ms cs ∙ ap (λ o. set_found w depth U x o pieces ms cs) at ∙ ap (λ o. set_found w depth U x (trail spot) pieces o cs) there) (finds walk.depth walk.enough) in
      let ended = subst (λ b. IsFound (own_found spot p b v) between after q) (some ∙ ap is_some there) own in
      found-ended inner (is_some members) (is_non_null spot.type) (path_of (trail spot)) v before between after p q
      (λ e. ap (λ o. (set_found w depth U x (trail spot) pieces o cs).bad) (none-is members e) ∙ set-quiet w depth U x (trail spot) pieces cs)
      (λ e. plain-members groups v (ap is_some given-members ∙ e)) inside ended

-- ---- a list that fits

pub list-found : {O X : Type 0} (see : O → X) (w : World X ObjectType Group (List (List Selection))) (spot : Spot Group) (items : List (Result (ResolvedValue O) FieldError))
    (v : Option Value) (cs : List Claim) (vs : Option (List Value)) (given : Bool) (before between after : Findings) (p q : Bool)
    → w.misfit spot.type (gives_list (meanings_by see items)) ≡ None → vs ≡ items_of (length items) v → given ≡ is_some vs
    → FindsBelow w spot.group before between p (λ run. items_found w run spot 0 (meanings_by see items) vs cs)
    → IsFound (own_found spot p given v) between after q
    → FindsBelow w spot.group before after q (λ run. place_found w run spot (gives_list (meanings_by see items)) v cs)
list-found see w spot items v cs vs given before between after p q fits is some finds own depth enough =
    let ms = meanings_by see items in
    let run = set_found w depth in
    let values = array_for ms v in
    let inner = items_found w run spot 0 ms values cs in
    let there : vs ≡ values = is ∙ items-given see items v in
    let inside = found-as _ inner before between p (ap (λ o. items_found w run spot 0 ms o cs) there) (finds depth enough) in
    let ended = subst (λ b. IsFound (own_found spot p b v) between after q) (some ∙ ap is_some there) own in
    found-as _ _ before after q (sym (place-list w run spot ms v cs fits))
    (found-ended inner (is_some values) (is_non_null spot.type) (path_of (trail spot)) v before between after p q
    (λ e. ap (λ o. (items_found w run spot 0 ms o cs).bad) (none-is values e) ∙ items-quiet w run spot 0 ms cs)
    (λ e. plain-items (length items) v (ap is_some (items-given see items v) ∙ e)) inside ended)
