use Rattle.std.proofs.Common.{◌≡◌, ◌≤◌, length}
use Rattle.jb_read.specs.Bytes.{skip_white}
use Rattle.jb_read.proofs.token.skip_spaces.Given as goal

abbrev pub invariant-loop-byte : goal.invariant-loop-byte
invariant-loop-byte l = record {
  same : skip_white l.cursor ≡ skip_white l.fn.cursor;
  no_more : length l.cursor ≤ length l.fn.cursor;
}

abbrev pub decreases-loop-byte : goal.decreases-loop-byte
decreases-loop-byte l = length l.cursor
