use Rattle.std.proofs.Common.{◌≡◌, length}
use Rattle.std.specs.Str.{bytes_eq}
use Rattle.jb_tree.specs.Pointer.{decoded}
use Rattle.jb_tree.proofs.pointer.decodes_to.Given as goal

abbrev pub invariant-bytes : goal.invariant-bytes
invariant-bytes l = bytes_eq (decoded l.fn.token) l.fn.key ≡ bytes_eq (decoded l.token) l.key

abbrev pub decreases-bytes : goal.decreases-bytes
decreases-bytes l = length l.token
