use Rattle.std.proofs.Common.{◌≡◌, drop, map, length}
use Rattle.std.specs.List.{list_all}
use Rattle.gql_rules_merging.specs.SameValue.{same_value, same_items, is_among}
use Rattle.gql_rules_merging.specs.bridge.Tests.{member_test}
use Rattle.gql_rules_merging.proofs.same_value.+same.Given as goal

-- the items so far are the same
abbrev pub invariant-same_items-loop-item : goal.invariant-same_items-loop-item
invariant-same_items-loop-item l = record {
  at : l.index ≡ l.item-index;
  rest : same_items (map same_value (drop l.item-index l.items)) (drop l.item-index l.others) ≡ same_items (map same_value l.items) l.others;
}

-- the members so far are among the others
abbrev pub invariant-same_members-loop-member : goal.invariant-same_members-loop-member
invariant-same_members-loop-member l = record {
  as_many : length l.members ≡ length l.others;
  rest : list_all (is_among l.others) (map member_test (drop l.member-index l.members)) ≡ list_all (is_among l.others) (map member_test l.members);
}
