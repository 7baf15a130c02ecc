-- There is room for the collections of a plan.
use Rattle.std.proofs.Common.{arith, ◌≡◌, ℕ, zero, suc, ◌+◌, ◌≤◌, List, [], ◌∷◌, ◌++◌, map, ap}
use Rattle.std.specs.List.{AllByRecursion}
use Rattle.gql_document_types.specs.declared.fragment.Fragment.{Fragment}
use Rattle.gql_document_types.specs.declared.selection.Field.{Field}
use Rattle.gql_document_types.specs.declared.selection.Selection.{Selection}
use Rattle.gql_collect.specs.Grouping.{fields_in_groups, groups_seen}
use Rattle.gql_collect.specs.Sizes.{fragments_size, size}
use Rattle.gql_collect.specs.Standing.{NoneMoreOften, fields_in, fields_in_all, fields_in_fragments, weighed}
use Rattle.gql_collect.specs.Walk.{fields_of}
use Rattle.gql_collect.specs.declared.group.Group.{Group}
use Rattle.gql_collect.specs.bridge.Plan.{sets_below}
use Rattle.gql_collect.specs.Room.{all_selections}
use Rattle.gql_collect.specs.bridge.Room.{HasRoom, set_below, fields_down, fields_down_fragments}
use Rattle.gql_collect.proofs.Totals.{size_below, down-total, down-fragments-total}
use Rattle.gql_collect.proofs.Weights.{weighed-append, inner, down-level, down-fragments-level, below-size, below-fields}

module _ (fragments : List Fragment) (operation : List Selection) where
  abbrev all_fields : ℕ → List Field
  all_fields n = fields_down n operation ++ fields_down_fragments n fragments

  abbrev standing : List Field
  standing = fields_in_fragments fragments

  -- one level more
  level : (w : Field → ℕ) (n : ℕ) → weighed (inner w) (all_fields n) + (weighed w (fields_in operation) + weighed w standing) ≡ weighed w (all_fields (suc n))
  level w n =
      omega (
        arith,
        weighed-append w (fields_down (suc n) operation) (fields_down_fragments (suc n) fragments),
        weighed-append (inner w) (fields_down n operation) (fields_down_fragments n fragments),
        down-level w n operation,
        down-fragments-level w n fragments,
      )

  -- the sets below all fields, with those of the operation and the fragments
  all-looks : (n : ℕ) → size operation + (fragments_size fragments + weighed size_below (all_fields n)) ≤ all_selections fragments operation
  all-looks n =
      omega (
        arith,
        weighed-append size_below (fields_down n operation) (fields_down_fragments n fragments),
        down-total fragments n operation,
        down-fragments-total fragments n fragments,
      )

  -- the operation itself
  pub room-root : HasRoom fragments operation (operation ∷ [])
  room-root = record {
    levels = 1;
    fields = λ w.
        omega (
          arith,
          weighed-append w (fields_in operation ++ []) standing,
          weighed-append w (fields_in operation) [],
          level w zero,
        );
    looks = omega (arith, all-looks zero);
  }

  -- what is selected below fields that were collected
  pub room-below : (sets : List (List Selection)) (fields : List Field) → HasRoom fragments operation sets → NoneMoreOften fields (fields_in_all sets ++ standing)
      → HasRoom fragments operation (map set_below fields)
  room-below sets fields room once = record {
    levels = suc room.levels;
    fields = λ w.
        omega (
          arith,
          weighed-append w (fields_in_all (map set_below fields)) standing,
          below-fields w fields,
          once (inner w),
          room.fields (inner w),
          level w room.levels,
        );
    looks = omega (arith, below-size fields, once size_below, room.fields size_below, all-looks room.levels);
  }

  -- each group that was collected has room
  pub room-groups : (sets : List (List Selection)) (groups : List Group) → HasRoom fragments operation sets
      → NoneMoreOften (fields_in_groups (groups_seen groups)) (fields_in_all sets ++ standing)
      → AllByRecursion (λ (group : Group). HasRoom fragments operation (sets_below group)) groups
  room-groups sets [] room once = tt
  room-groups sets (group ∷ groups) room once = (
    room-below sets (fields_of group.fields) room
        (λ w. omega (arith, weighed-append w (fields_of group.fields) (fields_in_groups (groups_seen groups)), once w)),
    room-groups sets groups room
        (λ w. omega (arith, weighed-append w (fields_of group.fields) (fields_in_groups (groups_seen groups)), once w)),
  )
