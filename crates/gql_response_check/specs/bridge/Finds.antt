-- What is found at a place, as the code keeps it: added to what was found before.
use Rattle.std.specs.Prelude.{◌≡◌, ℕ, Bool, List, Option, None, map}
use Rattle.jb_tree.specs.declared.value.Value.{Value}
use Rattle.gql_collect.specs.declared.group.Group.{Group as FieldsOfKey}
use Rattle.gql_document_types.specs.declared.selection.Selection.{Selection}
use Rattle.gql_exec.specs.Executing.{Resolving}
use Rattle.gql_exec.specs.bridge.Executing.{world_of}
use Rattle.gql_exec.specs.Group.{Group}
use Rattle.gql_exec.specs.Trails.{group_of}
use Rattle.gql_exec.specs.declared.executing.Executing.{Executing}
use Rattle.gql_resolvers.specs.Execute.{Member}
use Rattle.gql_resolvers.specs.Resolved.{Fault, Meaning, Meanings}
use Rattle.gql_resolvers.specs.Spot.{Spot, field_spot, item_spot, trail}
use Rattle.gql_resolvers.specs.Trail.{Trail, path_of}
use Rattle.gql_resolvers.specs.World.{World}
use Rattle.gql_schema_types.specs.declared.types.ObjectType.{ObjectType}
use Rattle.gql_source.specs.File.{Files}
use Rattle.gql_checker_laws.specs.Claims.{Claim, first_of}
use Rattle.gql_checker_laws.specs.Walk.{bad_by, groups_found, items_found, outcome_found}
use Rattle.gql_checker_laws.specs.Found.{FindsBelow, FindsGroups, IsFound}
use Rattle.gql_checker_laws.specs.Places.{fault_found, item_found, members_at, own_found, place_found}
use Rattle.gql_response_check.specs.bridge.Views.{claims_in, findings_of, value_in}
use Rattle.gql_response_check.specs.declared.findings.Findings.{Findings}
use Rattle.gql_response_check.specs.declared.reported.Reported.{Reported}

-- its path is noted as bad, unless another is or the value there is as it is given or a null that is held
pub record NotesValue (spot : Spot Group) (held given : Bool) (reported : Reported) (before after : Findings) : Type 0 where
  pub told : after.told ≡ before.told
  pub bad : after.bad ≡ first_of before.bad (bad_by given held (path_of (trail spot)) (value_in reported) None)

-- a place with nothing inside it, by whether a null comes to it and whether its value is as it is given
pub record FindsOwn (spot : Spot Group) (comes given : Bool) (reported : Reported) (before after : Findings) (passes : Bool) : Type 0 where
  pub finds : IsFound (own_found spot comes given (value_in reported)) (findings_of before) (findings_of after) passes

-- a place with a fault
pub record FindsFault (sources : Files) (spot : Spot Group) (fault : Fault) (reported : Reported) (before after : Findings) (passes : Bool) : Type 0 where
  pub finds :
      IsFound (fault_found sources spot fault (value_in reported) (claims_in reported)) (findings_of before) (findings_of after) passes

module _ {X : Type 0} (e : Executing) (types : X → List ℕ) (resolves : Resolving X) where
  -- what the execution goes by
  abbrev w : World X ObjectType Group (List (List Selection))
  w = world_of e types resolves

  -- an answer at a place
  pub record FindsAnswer (spot : Spot Group) (m : Meaning X) (reported : Reported) (before after : Findings) (passes : Bool) : Type 0 where
    pub finds : FindsBelow w spot.group (findings_of before) (findings_of after) passes
        (λ run. place_found w run spot m (value_in reported) (claims_in reported))

  -- an object of a type that fits the place
  pub record FindsMembers (spot : Spot Group) (U : ObjectType) (x : X) (reported : Reported) (before after : Findings) (passes : Bool) : Type 0 where
    pub finds : FindsBelow w spot.group (findings_of before) (findings_of after) passes
        (λ run. members_at w run spot U x (value_in reported) (claims_in reported))

  -- the items of a list that fits the place
  pub record FindsItems (spot : Spot Group) (ms : Meanings X) (values : Option (List Value)) (claims : List Claim)
      (before after : Findings) (passes : Bool) : Type 0 where
    pub finds : FindsBelow w spot.group (findings_of before) (findings_of after) passes
        (λ run. items_found w run spot 0 ms values claims)

  -- an item of the list at a place
  pub record FindsItem (list : Spot Group) (index : ℕ) (m : Meaning X) (reported : Reported) (before after : Findings) (passes : Bool) : Type 0 where
    pub finds : FindsBelow w list.group (findings_of before) (findings_of after) passes
        (λ run. item_found w run (item_spot list index) m (value_in reported) (claims_in reported))

  -- a group on an object
  pub record FindsField (U : ObjectType) (x : X) (outer : Trail) (g : Group) (reported : Reported) (before after : Findings) (passes : Bool) : Type 0 where
    pub finds : FindsBelow w g (findings_of before) (findings_of after) passes
        (λ run. outcome_found w run (field_spot w U outer g) (w.asks U x g) (value_in reported) (claims_in reported))

  -- groups on an object
  pub record FindsParts (U : ObjectType) (x : X) (outer : Trail) (groups : List FieldsOfKey) (members : Option (List Member)) (claims : List Claim)
      (before after : Findings) (passes : Bool) : Type 0 where
    pub finds : FindsGroups w (map group_of groups) (findings_of before) (findings_of after) passes
        (λ run. groups_found w run U x outer (map group_of groups) members claims)
