-- Collected groups as execution takes them.
use Rattle.std.proofs.Common.{◌≡◌, List, [], ◌∷◌, map, refl, ap}
use Rattle.gql_collect.specs.Grouping.{groups_seen}
use Rattle.gql_collect.specs.declared.group.Group.{Group as FieldsOfKey}
use Rattle.gql_exec.specs.Group.{Group, groups_from}
use Rattle.gql_exec.specs.Trails.{group_of}

abbrev pub views : List FieldsOfKey → List Group
views groups = map group_of groups

pub views-from : (groups : List FieldsOfKey) → groups_from (groups_seen groups) ≡ views groups
views-from [] = refl
views-from (g ∷ gs) = ap (λ l. group_of g ∷ l) (views-from gs)
