use Rattle.std.proofs.Common.{◌≡◌, length}
use Rattle.bench_maps.proofs.work.keys.Given as goal

abbrev pub invariant-loop-number : goal.invariant-loop-number
invariant-loop-number l = length l.keys ≡ l.number
