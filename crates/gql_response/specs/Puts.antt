-- Objects that are read member by member: each is judged as it stands.
use Rattle.std.specs.Prelude.{◌≡◌, List, [], ◌∷◌, Result, Ok, Err}
use Rattle.jb_text.specs.declared.refused.Refused.{Refused}
use Rattle.jb_text.specs.declared.refused.Refused.TheVariants as refused
use Rattle.jb_tree.specs.declared.value.Value.{Value}
use Rattle.jb_tree.specs.Value.{object_members}
use Rattle.jb_shape.specs.declared.shape_error.ShapeError.{ShapeError}
use Rattle.jb_shape.specs.Outcome.{and_then}
use Rattle.jb_shape.specs.Scalars.{of_kind}
use Rattle.gql_response.specs.Response.{Member}

-- each member in turn, or the first cause
abbrev pub in_turn : {P : Type 0} → (P → Member → Result P ShapeError) → P → List Member → Result P ShapeError
in_turn put parts [] = Ok parts
in_turn put parts (member ∷ members) = and_then (put parts member) (λ more. in_turn put more members)

-- an object of which each member is put in its place
abbrev pub parts_of : {P : Type 0} → (P → Member → Result P ShapeError) → P → Value → Result P ShapeError
parts_of put none value = and_then (of_kind (object_members value)) (in_turn put none)

-- a place took what was put, or the cause why it did not; out of memory is free
abbrev pub Puts : {P : Type 0} → Result P ShapeError → Result (Unit {0}) (Refused ShapeError) → P → Type 0
Puts wanted (Ok _) after = wanted ≡ Ok after
Puts wanted (Err (refused.Fault cause)) after = wanted ≡ Err cause
Puts wanted (Err refused.Memory) after = Unit {0}
