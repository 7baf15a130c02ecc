use Rattle.std.proofs.Common.{◌-◌, ◌++◌, map, ap, ◌∙◌, arith}
use Rattle.std.specs.Option.{option_copied}
use Rattle.gql_rules.proofs.Members.{each_step}
use Rattle.gql_rules.proofs.value_uses.+uses.Goals as goal
use Rattle.gql_rules.specs.Uses.{member_place, members_uses, value_uses}
use Rattle.gql_rules.specs.bridge.Views.{place_of, uses_of}

pub add_members-loop-member-preserved : goal.add_members-loop-member-preserved
add_members-loop-member-preserved t c =
    let types = c.args.types.now in
    let place = place_of c.args.place.now in
    let items = c.as_slice-member-items.result.now in
    let member = c.member-item.result in
    let before = uses_of c.loop-member.uses in
    record {
      left = omega (arith, c.loop-member.invariant.left, c.loop-member-test.true);
      made = each_step types c.args.literal.now.location place (option_copied c.one_of_literal-one_of.result) items c.loop-member.member-index (c.loop-member.left - 1) member before
          (uses_of c.add_value.new.uses) (uses_of c.args.uses.now ++ members_uses types c.args.literal.now.location place (map (λ m. (m.0, value_uses types m.1)) items))
          c.loop-member-test.true c.member-item.is (omega (arith, c.loop-member.invariant.left, c.loop-member-test.true))
          (c.in_ok-add_value.ensures ∙ ap (λ p. before ++ value_uses types member.1 p) (c.member-inside.ensures ∙ ap (λ o. member_place types place member.0 o c.args.literal.now.location) c.of_last.ensures))
          c.loop-member.invariant.made;
    }
