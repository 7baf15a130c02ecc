use Rattle.std.proofs.Common.{◌≡◌, [], length, IsUtf8}
use Rattle.jb_tree.specs.Pointer.{pointed, named, tokens_from}
use Rattle.jb_tree.proofs.value.Value.pointer_mut.Given as goal

abbrev pub invariant-tokens : goal.invariant-tokens
invariant-tokens l = (pointed l.fn.pointer l.fn.self ≡ named (tokens_from [] l.rest) l.place) × IsUtf8 l.rest

abbrev pub decreases-tokens : goal.decreases-tokens
decreases-tokens l = length l.rest
