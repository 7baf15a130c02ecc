-- Classes of fields that are alike but for their places: they conflict with the same fields, and so do those that are selected in them.
use Rattle.std.specs.Prelude.{◌≡◌, ℕ, ◌-◌, Bool, true, false, ◌&&◌, ◌||◌}
use Rattle.std.specs.Prelude.{◌==◌, nat_le, nat_lt, List, [], ◌∷◌, length, Some, slice_get, is_some}
use Rattle.std.specs.Option.{option_map_or}
use Rattle.std.specs.Str.{bytes_eq}
use Rattle.gql_ast_base.specs.declared.directive.Argument.{Argument}
use Rattle.gql_ast_base.specs.TypeParts.{named_type}
use Rattle.gql_graph.specs.bridge.Explored.{class_of}
use Rattle.gql_graph.specs.declared.pair.Pair.{Pair}
use Rattle.gql_schema_types.specs.declared.types.ExtendedType.{ExtendedType}
use Rattle.gql_rules_merging.specs.ConflictingFieldArgument.{same_arguments}
use Rattle.gql_rules_merging.specs.ConflictingFieldType.{levels, same_levels}
use Rattle.gql_rules_merging.specs.FieldSelectionMerging.{below}
use Rattle.gql_rules_merging.specs.Numbering.{Selected}
use Rattle.gql_rules_merging.specs.ResponseKeys.{key_of}

-- each has the arguments of the other, in any order
abbrev pub same_both_ways : List Argument → List Argument → Bool
same_both_ways arguments others = same_arguments arguments others && same_arguments others arguments

-- fields of one name, one response key, the same arguments and one type, in sets on one type
abbrev pub same_head : Selected → Selected → Bool
same_head one other =
    bytes_eq one.parent.text other.parent.text
    && (bytes_eq (key_of one) (key_of other)
    && (bytes_eq one.name.text other.name.text
    && (same_both_ways one.arguments other.arguments
    && (same_levels (levels one.definition.ty) (levels other.definition.ty)
    && bytes_eq (named_type one.definition.ty).text (named_type other.definition.ty).text))))

-- behind the fragments, of which there are so many, come the fields; these have classes
module _ (base : ℕ) (classes : List ℕ) where
  abbrev pub has_class : ℕ → Bool
  has_class item = nat_le base item && nat_lt (item - base) (length classes)

  -- one fragment, or fields of one class
  abbrev pub same_item : ℕ → ℕ → Bool
  same_item one other =
      (one == other)
      || ((has_class one && has_class other) && (class_of classes (one - base) == class_of classes (other - base)))

  abbrev pub same_items : List ℕ → List ℕ → Bool
  same_items [] [] = true
  same_items (one ∷ ones) (other ∷ others) = same_item one other && same_items ones others
  same_items _ _ = false

  abbrev pub is_like : Selected → Selected → Bool
  is_like one other = same_head one other && same_items one.items other.items

  abbrev pub is_like_at : List Selected → Selected → ℕ → Bool
  is_like_at fields field number = option_map_or (is_like field) (slice_get fields number) false

-- each field is alone in a class, or like the one that its class is called after
pub record AreClasses (base : ℕ) (fields : List Selected) (classes : List ℕ) : Type 0 where
  pub as_many : length classes ≡ length fields
  pub like : (a r : ℕ) (field : Selected) → slice_get classes a ≡ Some r → slice_get fields a ≡ Some field → (a == r) ≡ false
      → is_like_at base classes fields field r ≡ true

-- the pair with its fields the other way round
abbrev pub turned : Pair → Pair
turned p = record { first = p.second; second = p.first; in_full = p.in_full }

-- a pair breaks nothing, whichever field comes first
abbrev pub is_sound : List ExtendedType → List Selected → Pair → Bool
is_sound types fields p = is_some (below types fields p) && is_some (below types fields (turned p))
