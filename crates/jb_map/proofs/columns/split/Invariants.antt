use Rattle.std.proofs.Common.{◌≡◌, ◌≤◌, ◌+◌, ◌++◌, reverse, vec_len}
use Rattle.std.specs.Vec.{vec_capacity}
use Rattle.std.specs.Map.{keys_of, values_of}
use Rattle.jb_map.proofs.columns.split.Given as goal

-- the pairs that are left stand in reverse behind those that went over, and there is room for all
abbrev pub invariant-loop-key : goal.invariant-loop-key
invariant-loop-key g l = record {
  texts : l.texts.items ++ keys_of (reverse l.pairs.items) ≡ keys_of l.fn.pairs.items;
  values : l.values.items ++ values_of (reverse l.pairs.items) ≡ values_of l.fn.pairs.items;
  texts_room : vec_len l.texts + vec_len l.pairs ≤ vec_capacity l.texts;
  values_room : vec_len l.values + vec_len l.pairs ≤ vec_capacity l.values;
}

abbrev pub decreases-loop-key : goal.decreases-loop-key
decreases-loop-key g l = vec_len l.pairs
