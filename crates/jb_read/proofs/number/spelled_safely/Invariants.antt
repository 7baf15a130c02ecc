use Rattle.std.proofs.Common.{◌≡◌, drop}
use Rattle.jb_read.specs.Numbers.{digits_from}
use Rattle.jb_read.proofs.number.spelled_safely.Given as goal

abbrev pub invariant-loop-byte : goal.invariant-loop-byte
invariant-loop-byte l = record {
  so_far : digits_from l.value (drop l.count l.bytes) ≡ digits_from l.fn.lead l.bytes;
  counted : l.byte-index ≡ l.count;
}
