-- What is found at one place.
use Rattle.std.specs.Prelude.{◌≡◌, Bool, false, List, [], Option, Some, None, is_some}
use Rattle.jb_tree.specs.declared.value.Value.{Value}
use Rattle.jb_tree.specs.Value.{is_null}
use Rattle.gql_source.specs.File.{Files}
use Rattle.gql_ast_base.specs.TypeParts.{is_non_null}
use Rattle.gql_resolvers.specs.Resolved.{Fault, Meaning, answered}
use Rattle.gql_resolvers.specs.Spot.{Spot, trail}
use Rattle.gql_resolvers.specs.Trail.{path_of}
use Rattle.gql_resolvers.specs.World.{World}
use Rattle.gql_checker_laws.specs.Claims.{Claim, Found, nothing}
use Rattle.gql_checker_laws.specs.Walk.{Below, fitting, object_for, settled, settled_by, unless_idle, value_found}
use Rattle.gql_checker_laws.specs.Told.{any_told, told_numbers}

-- there is a value that is not null
abbrev pub HasPlain : Option Value → Type 0
HasPlain None = ⊥
HasPlain (Some u) = is_null u ≡ false

-- a place to which no error tells a fault of its own
abbrev pub ended : {G : Type 0} → Spot G → (comes given : Bool) → Option Value → Found → Found
ended spot comes given v inner = settled_by comes given [] (is_non_null spot.type) (path_of (trail spot)) v inner

-- with nothing inside it
abbrev pub own_found : {G : Type 0} → Spot G → (comes given : Bool) → Option Value → Found
own_found spot comes given v = ended spot comes given v nothing

-- a place with a fault
abbrev pub fault_found : {G : Type 0} → Files → Spot G → Fault → Option Value → List Claim → Found
fault_found sources spot fault v cs =
    settled_by (any_told sources fault cs) false (told_numbers sources fault cs) (is_non_null spot.type) (path_of (trail spot)) v nothing

module _ {X T G S : Type 0} (w : World X T G S) where
  -- a place with an answer
  abbrev pub place_found : Below w → Spot G → Meaning X → Option Value → List Claim → Found
  place_found run spot m v cs = settled w spot (answered m) v cs (fitting w (w.misfit spot.type m) (value_found w run spot m v cs))

  -- an item, where there is anything to look for
  abbrev pub item_found : Below w → Spot G → Meaning X → Option Value → List Claim → Found
  item_found run spot m v cs = unless_idle v cs (place_found run spot m v cs)

  -- a place with an object of a type that fits it
  abbrev pub members_at : Below w → Spot G → T → X → Option Value → List Claim → Found
  members_at run spot U x v cs =
      let members = object_for w (w.groups U (w.below spot.group)) v in
      let inner = run U x (trail spot) (w.below spot.group) members cs in
      ended spot inner.passes (is_some members) v inner
