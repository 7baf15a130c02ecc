-- Families of fields: each field agrees with the one that its family is called after, and no field is compared with one of another.
use Rattle.std.specs.Prelude.{◌≡◌, ◌<◌, ℕ, Bool, true, false, not, ◌&&◌, ◌||◌, ◌==◌, List, [], ◌++◌, slice_get, slice_set}
use Rattle.std.specs.List.{Contains}
use Rattle.std.specs.Option.{option_map_or, unwrap_or}
use Rattle.gql_graph.specs.bridge.Explored.{class_of, IsExplored}
use Rattle.gql_graph.specs.Pairs.{Sets}
use Rattle.gql_schema_types.specs.declared.types.ExtendedType.{ExtendedType}
use Rattle.gql_rules_merging.specs.ConflictingFieldType.{same_shape}
use Rattle.gql_rules_merging.specs.FieldSelectionMerging.{below, differ, items}
use Rattle.gql_rules_merging.specs.Numbering.{Selected, Numbered}
use Rattle.gql_rules_merging.specs.ResponseKeys.{key_numbers}

module _ (types : List ExtendedType) where
  -- one shape, one name and the same arguments, whichever comes first
  abbrev pub agree : Selected → Selected → Bool
  agree one other = same_shape types one.definition.ty other.definition.ty && (not (differ one other) && not (differ other one))

  module _ (fields : List Selected) where
    abbrev pub agrees_with : ℕ → Selected → Bool
    agrees_with number field = option_map_or (agree field) (slice_get fields number) false

    -- the field of a number, and of a family
    abbrev pub is_agreed : ℕ → ℕ → Selected → Bool
    is_agreed family number field = (number == family) || agrees_with family field

    abbrev pub is_agreed_at : List ℕ → ℕ → Bool
    is_agreed_at families number = option_map_or (is_agreed (class_of families number) number) (slice_get fields number) true

    abbrev pub AreAgreed : List ℕ → Type 0
    AreAgreed families = (number : ℕ) → is_agreed_at families number ≡ true

    abbrev pub is_shaped_with : ℕ → Selected → Bool
    is_shaped_with number field =
        option_map_or (λ (other : Selected). same_shape types field.definition.ty other.definition.ty) (slice_get fields number) false

    abbrev pub is_shaped_at : List ℕ → ℕ → Bool
    is_shaped_at families number = option_map_or (is_shaped_with (class_of families number)) (slice_get fields number) true

    -- each field has the shape of the one that its family is called after
    abbrev pub AreShaped : List ℕ → Type 0
    AreShaped families = (number : ℕ) → is_shaped_at families number ≡ true

-- each family is called after one of so many fields
abbrev pub AreWithin : ℕ → List ℕ → Type 0
AreWithin count families = (number : ℕ) → number < count → class_of families number < count

-- ---- the sets of families, at their numbers

abbrev pub row_of : List (List ℕ) → ℕ → List ℕ
row_of rows number = unwrap_or (slice_get rows number) []

abbrev pub with_items : List (List ℕ) → ℕ → List ℕ → List (List ℕ)
with_items rows number more = option_map_or (λ row. slice_set rows number (row ++ more)) (slice_get rows number) rows

-- what a field selects is in the row of its family
abbrev pub AreSelected : List Selected → List ℕ → List (List ℕ) → Type 0
AreSelected fields families rows = (number item : ℕ) → Contains (items fields number) item → Contains (row_of rows (class_of families number)) item

pub record IsGathered (document : Numbered) (families : List ℕ) (rows : List (List ℕ)) : Type 0 where
  pub selected : AreSelected document.fields families rows
  pub operations : (row : List ℕ) → Contains document.operations row → Contains rows row

-- a document's sets, with these rows in the place of what operations select, and these numbers in the place of response keys
abbrev pub sets_over : List ExtendedType → Numbered → List (List ℕ) → List ℕ → Sets
sets_over types document rows keys = record {
  fragments = document.fragments;
  operations = rows;
  items = items document.fields;
  keys = keys;
  below = below types document.fields;
}

-- fields of one response key that are compared are of one family, and all of it have one shape
pub record AreShapeFamilies (types : List ExtendedType) (document : Numbered) (families : List ℕ) : Type 0 where
  pub shaped : AreShaped types document.fields families
  pub rows : List (List ℕ)
  pub gathered : IsGathered document families rows
  pub closed : IsExplored (sets_over types document rows (key_numbers document.fields)) families []

-- fields of one number that meet are of one group, and all of it agree
pub record AreGroups (types : List ExtendedType) (document : Numbered) (numbers groups : List ℕ) : Type 0 where
  pub agreed : AreAgreed types document.fields groups
  pub rows : List (List ℕ)
  pub gathered : IsGathered document groups rows
  pub closed : IsExplored (sets_over types document rows numbers) groups []
