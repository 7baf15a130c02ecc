-- Which values stand for lists, pairs and members.
use Rattle.std.specs.Prelude.{ℕ, List, [], ◌∷◌, Result, Ok, Err}
use Rattle.std.specs.Str.{bytes_eq}
use Rattle.indexmap.specs.IndexMap.{insert_all}
use Rattle.jb_tree.specs.declared.value.Value.{Value}
use Rattle.jb_tree.specs.declared.value.Value.TheVariants as value_variant
use Rattle.jb_tree.specs.Value.{array_items, object_members}
use Rattle.jb_shape.specs.declared.shape_error.ShapeError.{ShapeError}
use Rattle.jb_shape.specs.declared.shape_error.ShapeError.TheVariants.{WrongLength}
use Rattle.jb_shape.specs.Outcome.{and_then, each, both}
use Rattle.jb_shape.specs.Scalars.{of_kind}

-- the array of the items' values
abbrev pub list_value : {T : Type 0} → (T → Result Value ShapeError) → List T → Result Value ShapeError
list_value shape items = and_then (each shape items) (λ values. Ok (value_variant.Array values))

abbrev pub read_list : {T : Type 0} → (Value → Result T ShapeError) → Value → Result (List T) ShapeError
read_list reading value = and_then (of_kind (array_items value)) (each reading)

-- the array of the two values
abbrev pub pair_value : {A B : Type 0} → (A → Result Value ShapeError) → (B → Result Value ShapeError) → A × B → Result Value ShapeError
pair_value first second pair =
    and_then (both (first pair.0) (second pair.1)) (λ values. Ok (value_variant.Array (values.0 ∷ values.1 ∷ [])))

-- the two items, where there are two
abbrev pub two_of : List Value → Result (Value × Value) ShapeError
two_of (a ∷ b ∷ []) = Ok (a, b)
two_of _ = Err WrongLength

abbrev pub read_pair : {A B : Type 0} → (Value → Result A ShapeError) → (Value → Result B ShapeError) → Value → Result (A × B) ShapeError
read_pair first second value =
    and_then (and_then (of_kind (array_items value)) two_of) (λ items. both (first items.0) (second items.1))

-- a key's text and its value
abbrev pub member_value : {K V : Type 0} → (K → Result (List ℕ) ShapeError) → (V → Result Value ShapeError) → K × V
    → Result (List ℕ × Value) ShapeError
member_value key shape member = both (key member.0) (shape member.1)

-- the object into which each member is put in turn
abbrev pub members_value : {K V : Type 0} → (K → Result (List ℕ) ShapeError) → (V → Result Value ShapeError) → List (K × V)
    → Result Value ShapeError
members_value key shape members =
    and_then (each (member_value key shape) members) (λ pairs. Ok (value_variant.Object (insert_all bytes_eq [] pairs)))

abbrev pub read_member : {K V : Type 0} → (List ℕ → Result K ShapeError) → (Value → Result V ShapeError) → List ℕ × Value
    → Result (K × V) ShapeError
read_member key reading member = both (key member.0) (reading member.1)

abbrev pub read_members_of : {K V : Type 0} → (List ℕ → Result K ShapeError) → (Value → Result V ShapeError) → Value
    → Result (List (K × V)) ShapeError
read_members_of key reading value = and_then (of_kind (object_members value)) (each (read_member key reading))
