use Rattle.std.proofs.Common.{◌≡◌, ◌≤◌, ◌+◌, ◌++◌, zip, reverse, vec_len}
use Rattle.std.specs.Vec.{vec_capacity}
use Rattle.jb_map.proofs.columns.join.Given as goal

-- the pairs that went over stand behind those that are left, in reverse, and there is room for all
abbrev pub invariant-loop-pair : goal.invariant-loop-pair
invariant-loop-pair g l = record {
  all : zip l.fn.texts.items l.fn.values.items ≡ zip l.texts.items l.values.items ++ reverse l.pairs.items;
  even : vec_len l.values ≡ vec_len l.texts;
  count : vec_len l.texts + vec_len l.pairs ≡ vec_len l.fn.texts;
  room : vec_len l.fn.texts ≤ vec_capacity l.pairs;
  texts_room : vec_capacity l.texts ≡ vec_capacity l.fn.texts;
  values_room : vec_capacity l.values ≡ vec_capacity l.fn.values;
}

abbrev pub decreases-loop-pair : goal.decreases-loop-pair
decreases-loop-pair g l = vec_len l.texts
