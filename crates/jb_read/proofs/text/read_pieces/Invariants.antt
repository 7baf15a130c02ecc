use Rattle.std.proofs.Common.{◌≤◌, length}
use Rattle.std.specs.String.{string_bytes}
use Rattle.jb_read.specs.Strings.{piece_at, text_at}
use Rattle.jb_read.proofs.Turns.{Goes}
use Rattle.jb_read.proofs.text.read_pieces.Given as goal

abbrev pub invariant-loop-made : goal.invariant-loop-made
invariant-loop-made l = record {
  goes : Goes piece_at (string_bytes l.made) l.cursor (text_at l.fn.cursor);
  no_more : length l.cursor ≤ length l.fn.cursor;
}

abbrev pub decreases-loop-made : goal.decreases-loop-made
decreases-loop-made l = length l.cursor
