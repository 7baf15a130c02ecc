use Rattle.std.proofs.Common.{◌≡◌, length}
use Rattle.gql_rules_merging.proofs.family_sets.empty_rows.Given as goal

abbrev pub invariant-loop-row : goal.invariant-loop-row
invariant-loop-row l = length l.made ≡ l._row
