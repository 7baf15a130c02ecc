use Rattle.std.proofs.Common.{◌≡◌, ◌++◌, drop}
use Rattle.std.specs.List.{flat_map}
use Rattle.gql_rules_nodes.specs.UndefinedFragment.{in_fragment}
use Rattle.gql_rules_nodes.proofs.undefined_fragment.list_in_fragments.Given as goal

-- what is told and what is left make the whole
abbrev pub invariant-loop-fragment : goal.invariant-loop-fragment
invariant-loop-fragment l = l.faults ++ flat_map (in_fragment l.fragments) (drop l.fragment-index l.walked) ≡ l.fn.faults ++ flat_map (in_fragment l.fragments) l.walked
