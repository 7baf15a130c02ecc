use Rattle.std.proofs.Common.{◌≡◌, ◌++◌, drop, None}
use Rattle.std.specs.List.{flat_map}
use Rattle.gql_rules_values.specs.Literals.{literal_faults}
use Rattle.gql_rules_values.proofs.literals.+untyped.Given as goal

-- what is listed and what is left make the whole
abbrev pub invariant-list_untyped_items-loop-literal : goal.invariant-list_untyped_items-loop-literal
invariant-list_untyped_items-loop-literal l =
    l.faults ++ flat_map (literal_faults l.defined l.types None) (drop l.literal-index l.literal-items) ≡ l.fn.faults ++ flat_map (literal_faults l.defined l.types None) l.literals

abbrev pub invariant-list_untyped_members-loop-member : goal.invariant-list_untyped_members-loop-member
invariant-list_untyped_members-loop-member l =
    l.faults ++ flat_map (λ member. literal_faults l.defined l.types None member.1) (drop l.member-index l.member-items)
    ≡ l.fn.faults ++ flat_map (λ member. literal_faults l.defined l.types None member.1) l.members
