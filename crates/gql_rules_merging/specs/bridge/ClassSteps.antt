-- The classes of fields, found field by field.
use Rattle.std.specs.Prelude.{◌≡◌, ◌⊎◌, ℕ, Bool, true, false, Option, ◌&&◌, if◌then◌else◌, List, length}
use Rattle.std.specs.Option.{option_map_or}
use Rattle.std.specs.Str.{bytes_eq}
use Rattle.gql_ast_base.specs.TypeParts.{named_type}
use Rattle.gql_graph.specs.bridge.Explored.{class_of as class_in}
use Rattle.gql_rules_merging.specs.bridge.Classes.{same_both_ways, is_like_at, same_item}
use Rattle.gql_rules_merging.specs.ConflictingFieldType.{levels, same_levels}
use Rattle.gql_rules_merging.specs.Numbering.{Selected}

abbrev pub class_of : List ℕ → ℕ → ℕ
class_of classes a = class_in classes a

abbrev pub same_type : Selected → Selected → Bool
same_type one other =
    same_levels (levels one.definition.ty) (levels other.definition.ty)
    && bytes_eq (named_type one.definition.ty).text (named_type other.definition.ty).text

abbrev pub same_field : Selected → Selected → Bool
same_field one other =
    bytes_eq one.name.text other.name.text && (same_both_ways one.arguments other.arguments && same_type one other)

abbrev pub like_or_own : ℕ → List ℕ → List Selected → Selected → ℕ → ℕ → ℕ
like_or_own base classes fields field first number = if is_like_at base classes fields field first then first else number

abbrev pub same_at : ℕ → List ℕ → ℕ → Option ℕ → Bool
same_at base classes one other = option_map_or (same_item base classes one) other false

-- its own class, or that of a field that it is like
abbrev pub IsClassFor : ℕ → List ℕ → List Selected → Selected → ℕ → Type 0
IsClassFor base classes fields field class = (class ≡ length classes) ⊎ (is_like_at base classes fields field class ≡ true)
