use Rattle.std.proofs.Common.{◌≡◌, ◌++◌, drop}
use Rattle.gql_rules_merging.proofs.family_sets.add_rows.Given as goal

-- what is added and what is left make the whole
abbrev pub invariant-loop-other : goal.invariant-loop-other
invariant-loop-other l = l.rows ++ drop l.other-index l.others ≡ l.fn.rows ++ l.others
