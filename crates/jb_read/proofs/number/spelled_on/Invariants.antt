use Rattle.std.proofs.Common.{◌≡◌, drop, ℕ}
use Rattle.jb_read.specs.Numbers.{digits_from}
use Rattle.jb_read.specs.bridge.Numbers.{within}
use Rattle.jb_read.proofs.number.spelled_on.Given as goal

abbrev pub invariant-loop-byte : goal.invariant-loop-byte
invariant-loop-byte l = record {
  so_far : (n : ℕ) × (l.value ≡ within n) × (digits_from n (drop l.count l.bytes) ≡ digits_from l.fn.number l.bytes);
  counted : l.byte-index ≡ l.count;
}
