use Rattle.std.proofs.Common.{◌≡◌, ◌++◌}
use Rattle.std.specs.List.{filter}
use Rattle.gql_collect.specs.Grouping.{groups_seen}
use Rattle.gql_collect.specs.Groups.{is_defined}
use Rattle.gql_collect.proofs.grouping.defined.Given as goal

-- those kept, and those that are left, make the whole
abbrev pub invariant-loop-group : goal.invariant-loop-group
invariant-loop-group l =
    groups_seen l.kept ++ filter (is_defined l.schema l.object_type) (groups_seen l.group-iterator) ≡ filter (is_defined l.schema l.object_type) (groups_seen l.fn.groups)
