-- What a value with named parts is read as.
use Rattle.std.specs.Prelude.{ℕ, Bool, List, [], ◌∷◌, Option, Some, None, Result, Ok, Err, position, if◌then◌else◌}
use Rattle.std.specs.Borrow.{Bor}
use Rattle.std.specs.Option.{option_copied}
use Rattle.std.specs.Result.{result_map_both}
use Rattle.std.specs.List.{list_all, list_any}
use Rattle.std.specs.Map.{keys_of}
use Rattle.std.specs.Str.{bytes_eq}
use Rattle.jb_tree.specs.declared.value.Value.{Value, out-Value}
use Rattle.jb_tree.specs.declared.value.Value.TheOpen.{Value-F}
use Rattle.jb_tree.specs.Value.{object_members}
use Rattle.jb_shape.specs.declared.shape_error.ShapeError.{ShapeError}
use Rattle.jb_shape.specs.declared.shape_error.ShapeError.TheVariants.{WrongKind, WrongLength, UnknownVariant, UnknownField, MissingField}
use Rattle.jb_shape.specs.Outcome.{and_then}
use Rattle.jb_shape.specs.Scalars.{of_kind}

-- the name and the content of an object's one member
abbrev pub one_member : List (List ℕ × Value) → Result (List ℕ × Option Value) ShapeError
one_member (member ∷ []) = Ok (member.0, Some member.1)
one_member _ = Err WrongLength

-- a name alone, or a name with its content
abbrev pub variant_at : Value-F Value → Result (List ℕ × Option Value) ShapeError
variant_at (Value-F.String name) = Ok (name, None)
variant_at (Value-F.Object members) = one_member members
variant_at _ = Err WrongKind

abbrev pub variant_of : Value → Result (List ℕ × Option Value) ShapeError
variant_of value = variant_at (out-Value value)

-- the place of a variant's name among the known ones, and its content
abbrev pub placed : {V : Type 0} → Option ℕ → V → Result (ℕ × V) ShapeError
placed (Some place) content = Ok (place, content)
placed None content = Err UnknownVariant

abbrev pub variant_among : List (List ℕ) → Value → Result (ℕ × Option Value) ShapeError
variant_among names value = and_then (variant_of value) (λ variant. placed (position (bytes_eq variant.0) names) variant.1)

-- every name is known
abbrev pub all_known : List (List ℕ) → List (List ℕ) → Bool
all_known known names = list_all (λ name. list_any (bytes_eq name) known) names

abbrev pub members_among : List (List ℕ) → Value → Result (List (List ℕ × Value)) ShapeError
members_among known value =
    and_then (of_kind (object_members value)) (λ members. if all_known known (keys_of members) then Ok members else Err UnknownField)

-- what is there, else a field that is missing
abbrev pub present : {V : Type 0} → Option V → Result V ShapeError
present (Some value) = Ok value
present None = Err MissingField

-- what the references of an answer point to
abbrev pub pointed : {V E : Type 0} → Result (Bor V) E → Result V E
pointed = result_map_both (λ value. value.now) (λ cause. cause)

abbrev pub variant_pointed : {N M V E : Type 0} → (N → M) → Result (N × Option (Bor V)) E → Result (M × Option V) E
variant_pointed name = result_map_both (λ variant. (name variant.0, option_copied variant.1)) (λ cause. cause)
