use Rattle.std.proofs.Common.{◌≡◌, take}
use Rattle.gql_collect.specs.Grouping.{groups_seen}
use Rattle.gql_collect.specs.bridge.Grouping.{key_texts, group_keys}
use Rattle.gql_collect.specs.Groups.{groups_of}
use Rattle.gql_collect.specs.Walk.{fields_of}
use Rattle.gql_collect.proofs.grouping.in_groups.Given as goal

-- the fields so far are in groups
abbrev pub invariant-loop-field : goal.invariant-loop-field
invariant-loop-field l =
    record {
      groups : groups_seen l.groups ≡ groups_of (fields_of (take l.field-index l.fields));
      keys : key_texts l.keys ≡ group_keys (groups_seen l.groups);
    }
