use Rattle.std.proofs.Common.{◌≡◌, ◌*◌}
use Rattle.gql_source.specs.bridge.Characters.{characters_before, counts_at_marks, step}
use Rattle.gql_source.proofs.characters.counts_at_marks.Given as goal

abbrev pub invariant-loop-mark : goal.invariant-loop-mark
invariant-loop-mark l = record {
  counts : l.counts.items ≡ counts_at_marks l.text l.mark;
  count : l.count ≡ characters_before l.text (l.mark * step);
}
