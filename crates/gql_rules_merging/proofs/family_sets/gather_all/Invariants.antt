use Rattle.std.proofs.Common.{◌≡◌, length}
use Rattle.gql_rules_merging.proofs.FamilySets.{AreSelectedBelow}
use Rattle.gql_rules_merging.specs.bridge.Gathering.{fields_of}
use Rattle.gql_rules_merging.proofs.family_sets.gather_all.Given as goal

-- what the fields before this one select is in the rows
abbrev pub invariant-loop-number : goal.invariant-loop-number
invariant-loop-number l = record {
  as_many : length l.rows ≡ length l.fields;
  selected : AreSelectedBelow l.number (fields_of l.fields) l.families l.rows;
}
