use Rattle.std.proofs.Common.{◌≡◌, ℕ, ◌<◌, true, get_or, List}
use Rattle.std.specs.Option.{option_eq}
use Rattle.std.specs.Str.{bytes_eq}
use Rattle.std.specs.Map.{keys_of, lookup}
use Rattle.jb_map.proofs.compared.PairsPartialEq.eq.Given as goal

abbrev pub invariant-loop-index : goal.invariant-loop-index
invariant-loop-index g l = (k : ℕ) → k < l.index → (d : List ℕ)
    → option_eq g.V.PartialEq.eq (lookup (bytes_eq (get_or (keys_of l.self) k d)) l.self) (lookup (bytes_eq (get_or (keys_of l.self) k d)) l.other) ≡ true
