use Rattle.std.proofs.Common.{◌≡◌, ◌++◌, drop}
use Rattle.gql_rules_merging.proofs.family_sets.add_all.Given as goal

-- what is added and what is left make the whole
abbrev pub invariant-loop-item : goal.invariant-loop-item
invariant-loop-item l = l.row ++ drop l.item-index l.items ≡ l.fn.row ++ l.items
