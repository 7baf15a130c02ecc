use Rattle.std.proofs.Common.{◌≡◌, ℕ, take, drop, zip, vec_len, reverse}
use Rattle.std.specs.Str.{bytes_eq}
use Rattle.indexmap.specs.IndexMap.{insert_all}
use Rattle.jb_map.proofs.pairs.Pairs.take_back_to_front.Given as goal

-- the first n of the reversed pairs are in, and the others are left
abbrev pub invariant-loop-key : goal.invariant-loop-key
invariant-loop-key g l =
    ((n : ℕ) × (l.self ≡ insert_all bytes_eq l.fn.self (take n (reverse (zip l.fn.texts.items l.fn.values.items))))
    × (reverse (zip l.texts.items l.values.items) ≡ drop n (reverse (zip l.fn.texts.items l.fn.values.items))))
    × (vec_len l.values ≡ vec_len l.texts)

abbrev pub decreases-loop-key : goal.decreases-loop-key
decreases-loop-key g l = vec_len l.texts
