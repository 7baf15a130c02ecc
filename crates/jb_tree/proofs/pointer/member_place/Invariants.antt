use Rattle.std.proofs.Common.{◌≡◌, ◌<◌, ℕ, List, false, get_or}
use Rattle.std.specs.Map.{keys_of}
use Rattle.std.specs.Str.{bytes_eq}
use Rattle.jb_tree.specs.Pointer.{decoded}
use Rattle.jb_tree.proofs.pointer.member_place.Given as goal

abbrev pub invariant-loop-index : goal.invariant-loop-index
invariant-loop-index l = (k : ℕ) → k < l.index → (d : List ℕ) → bytes_eq (decoded l.token) (get_or (keys_of l.members) k d) ≡ false
