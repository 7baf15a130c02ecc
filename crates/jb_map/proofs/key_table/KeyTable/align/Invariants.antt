use Rattle.std.proofs.Common.{◌≡◌, ℕ, List, ◌<◌, ◌≤◌, length, get_or}
use Rattle.std.specs.Str.{bytes_eq}
use Rattle.std.specs.List.{list_any}
use Rattle.jb_map.proofs.key_table.KeyTable.align.Given as goal

-- the keys before the index stand as the texts do, and none went out
abbrev pub invariant-loop-index : goal.invariant-loop-index
invariant-loop-index l =
    (l.index ≤ length l.self) × ((k : ℕ) (d : List ℕ) → k < l.index → get_or l.self k d ≡ get_or l.texts k d)
    × ((k : List ℕ) → list_any (bytes_eq k) l.self ≡ list_any (bytes_eq k) l.fn.self)
