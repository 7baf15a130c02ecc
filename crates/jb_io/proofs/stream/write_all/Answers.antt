-- One more write moves `at` to behind what it took.
use Rattle.std.proofs.Common.{arith}
use Rattle.jb_io.proofs.TakesLemmas.{Takes-more}
use Rattle.jb_io.proofs.stream.write_all.Goals as goal

pub loop-at-preserved : goal.loop-at-preserved
loop-at-preserved g c = (
  omega (arith, c.in_ok-at.ensures.within),
  Takes-more _ _ _ c.args.bytes.now c.loop-at.at c.in_ok-at.field-0 c.loop-at.invariant.1 c.in_ok-at.ensures.bytes,
  omega arith,
)
