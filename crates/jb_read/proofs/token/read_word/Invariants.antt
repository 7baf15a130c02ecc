use Rattle.std.proofs.Common.{◌≡◌, ◌+◌, length, drop}
use Rattle.jb_read.specs.Reading.{word_at}
use Rattle.jb_read.proofs.token.read_word.Given as goal

abbrev pub invariant-loop-byte : goal.invariant-loop-byte
invariant-loop-byte l = record {
  same : word_at (drop l.byte-index l.word) l.cursor ≡ word_at l.word l.fn.cursor;
  taken : length l.cursor + l.byte-index ≡ length l.fn.cursor;
}
