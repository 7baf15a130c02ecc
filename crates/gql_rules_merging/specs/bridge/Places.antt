-- Places of fields: a response key, and in a family of which all stand in sets on object types such a type too.
use Rattle.std.specs.Prelude.{◌≡◌, ℕ, Bool, true, ◌&&◌, ◌||◌, ◌==◌, if◌then◌else◌, Some, position, slice_get}
use Rattle.std.specs.Prelude.{List, [], ◌∷◌, ◌++◌, length}
use Rattle.std.specs.Bool.{beq}
use Rattle.std.specs.List.{IsDistinct, list_any}
use Rattle.std.specs.Option.{option_map_or, unwrap_or}
use Rattle.gql_graph.specs.bridge.Explored.{class_of}
use Rattle.gql_schema_types.specs.Entries.{is_called}
use Rattle.gql_schema_types.specs.Types.{type_name}
use Rattle.gql_schema_types.specs.declared.types.ExtendedType.{ExtendedType}
use Rattle.gql_rules_merging.specs.FieldSelectionMerging.{is_object_name}
use Rattle.gql_rules_merging.specs.Numbering.{Selected}
use Rattle.gql_rules_merging.specs.declared.places.Place.{Place}

-- whether a family is marked as one some of whose fields stand in sets on types that are not objects
abbrev pub is_mixed : List Bool → ℕ → Bool
is_mixed mixed family = unwrap_or (slice_get mixed family) true

abbrev pub is_place : Place → Place → Bool
is_place p q = (p.key == q.key) && ((p.parent == q.parent) && beq p.is_mixed q.is_mixed)

-- a place goes last if it is new
abbrev pub inserted : List Place → Place → List Place
inserted places p = if list_any (is_place p) places then places else places ++ p ∷ []

abbrev pub IsNumberOf : List Place → Place → ℕ → Type 0
IsNumberOf places p number = (q : Place) × (slice_get places number ≡ Some q) × (is_place p q ≡ true)

module _ (types : List ExtendedType) where
  abbrev pub type_number : Selected → ℕ
  type_number field = unwrap_or (position (is_called type_name field.parent.text) types) 0

  abbrev pub is_on_object : Selected → Bool
  is_on_object field = is_object_name types field.parent.text

  module _ (fields : List Selected) where
    -- the number of the type that a field stands on
    abbrev pub parent_number : ℕ → ℕ
    parent_number number = option_map_or type_number (slice_get fields number) 0

    abbrev pub is_on_object_at : ℕ → Bool
    is_on_object_at number = option_map_or is_on_object (slice_get fields number) true

    -- the place of the field of a number in a family that is mixed, or is not
    abbrev pub place_in : List ℕ → Bool → ℕ → Place
    place_in keys mixed number = record {
      key = class_of keys number;
      parent = if mixed then 0 else parent_number number;
      is_mixed = mixed;
    }

    abbrev pub place_of : List ℕ → List ℕ → List Bool → ℕ → Place
    place_of keys families mixed number = place_in keys (is_mixed mixed (class_of families number)) number

    -- each field of a family that is not mixed stands in a set on an object type
    abbrev pub AreOnObjects : List ℕ → List Bool → Type 0
    AreOnObjects families mixed = (number : ℕ) → (is_mixed mixed (class_of families number) || is_on_object_at number) ≡ true

    -- the numbers of the fields' places
    pub record ArePlaces (keys families : List ℕ) (mixed : List Bool) (numbers : List ℕ) (count : ℕ) : Type 0 where
      pub places : List Place
      pub distinct : IsDistinct is_place places
      pub as_many : length numbers ≡ length fields
      pub counted : count ≡ length places
      pub at : (a k : ℕ) → slice_get numbers a ≡ Some k → slice_get places k ≡ Some (place_of keys families mixed a)
