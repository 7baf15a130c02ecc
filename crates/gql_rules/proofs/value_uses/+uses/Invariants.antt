use Rattle.std.proofs.Common.{◌≡◌, ◌+◌, ◌++◌, drop, length, map}
use Rattle.std.specs.Option.{option_copied}
use Rattle.gql_rules.specs.Uses.{value_uses, items_uses, each_uses, members_uses}
use Rattle.gql_rules.specs.bridge.Views.{place_of, uses_of}
use Rattle.gql_rules.proofs.value_uses.+uses.Given as goal

-- what is there and what is left make the whole
abbrev pub invariant-add_items-loop-item : goal.invariant-add_items-loop-item
invariant-add_items-loop-item l =
    uses_of l.uses ++ items_uses l.types (place_of l.place) (map (value_uses l.types) (drop l.item-index l.item-items))
    ≡ uses_of l.fn.uses ++ items_uses l.types (place_of l.place) (map (value_uses l.types) l.item-items)

abbrev pub invariant-add_members-loop-member : goal.invariant-add_members-loop-member
invariant-add_members-loop-member l = record {
  left : l.left + l.member-index ≡ length l.member-items;
  made :
      uses_of l.uses
      ++ each_uses l.types l.literal.location (place_of l.place) (option_copied l.one_of) (map (λ member. (member.0, value_uses l.types member.1)) (drop l.member-index l.member-items))
      ≡ uses_of l.fn.uses ++ members_uses l.types l.literal.location (place_of l.place) (map (λ member. (member.0, value_uses l.types member.1)) l.member-items);
}
