use Rattle.std.proofs.Common.{◌≡◌, ◌++◌, drop, Some}
use Rattle.std.specs.List.{flat_map}
use Rattle.gql_rules_values.specs.Literals.{literal_faults}
use Rattle.gql_rules_values.specs.Typed.{member_type}
use Rattle.gql_rules_values.proofs.literals.+literal.Given as goal

-- what is listed and what is left make the whole
abbrev pub invariant-list_items-loop-literal : goal.invariant-list_items-loop-literal
invariant-list_items-loop-literal l =
    l.faults ++ flat_map (literal_faults l.defined l.types (Some l.item)) (drop l.literal-index l.literal-items) ≡ l.fn.faults ++ flat_map (literal_faults l.defined l.types (Some l.item)) l.literals

abbrev pub invariant-list_members-loop-member : goal.invariant-list_members-loop-member
invariant-list_members-loop-member l =
    l.faults ++ flat_map (λ member. literal_faults l.defined l.types (member_type l.types member.0.text l.ty) member.1) (drop l.member-index l.member-items)
    ≡ l.fn.faults ++ flat_map (λ member. literal_faults l.defined l.types (member_type l.types member.0.text l.ty) member.1) l.members
