use Rattle.std.proofs.Common.{◌≡◌, ℕ, take, drop}
use Rattle.std.specs.Str.{bytes_eq}
use Rattle.indexmap.specs.IndexMap.{insert_all}
use Rattle.jb_map.proofs.pairs.Pairs.extend.Given as goal

-- the first n are in, and the others are left
abbrev pub invariant-loop-key : goal.invariant-loop-key
invariant-loop-key g l = (n : ℕ) × (l.self ≡ insert_all bytes_eq l.fn.self (take n l.fn.pairs)) × (l.key-iterator ≡ drop n l.fn.pairs)
