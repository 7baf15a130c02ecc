use Rattle.std.proofs.Common.{◌≡◌, ◌≤◌, zip, vec_len}
use Rattle.jb_map.specs.Retained.{Keeps}
use Rattle.jb_map.proofs.Retention.{Sifts}
use Rattle.jb_map.proofs.columns.keep_pairs.Given as goal

-- the pairs before the index were tested, and those that stay are the first ones
abbrev pub invariant-loop-index : goal.invariant-loop-index
invariant-loop-index g l = record {
  within : l.kept ≤ l.index;
  count : vec_len l.texts ≡ vec_len l.fn.texts;
  even : vec_len l.values ≡ vec_len l.texts;
  sifts : Sifts (Keeps g.F.Fn l.keep) (zip l.fn.texts.items l.fn.values.items) (zip l.texts.items l.values.items) l.kept l.index;
}
