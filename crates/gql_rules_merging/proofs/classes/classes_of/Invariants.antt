use Rattle.std.proofs.Common.{◌≡◌, length}
use Rattle.gql_rules_merging.proofs.ClassGrowth.{AreLike}
use Rattle.gql_rules_merging.specs.bridge.Gathering.{fields_of}
use Rattle.gql_rules_merging.proofs.classes.classes_of.Given as goal

-- the fields so far have their classes
abbrev pub invariant-loop-field : goal.invariant-loop-field
invariant-loop-field l = record {
  as_many : length l.classes.items ≡ l.field-index;
  like : AreLike l.base (fields_of l.fields) l.classes.items;
}
