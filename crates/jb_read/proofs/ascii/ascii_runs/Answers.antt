use Rattle.std.proofs.Common.{◌+◌, ◌-◌, sym, ◌∙◌, arith}
use Rattle.jb_read.proofs.AsciiFronts.{ascii_on}
use Rattle.jb_read.proofs.ascii.ascii_runs.Goals as goal

pub loop-at-preserved : goal.loop-at-preserved
loop-at-preserved c =
    let at = c.loop-at.at in
    (omega arith, ascii_on c.args.bytes.now at (at + 8 - at) (at + 8) (omega arith) c.loop-at.invariant.1 (sym c.are_plain_ascii.ensures ∙ c.if-not-are_plain_ascii.false))
