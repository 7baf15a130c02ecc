use Rattle.std.proofs.Common.{◌+◌, sym, ◌∙◌, arith}
use Rattle.jb_text.proofs.Runs.{prefix_len-run}
use Rattle.jb_text.proofs.plain.plain_runs.Goals as goal

pub loop-at-preserved : goal.loop-at-preserved
loop-at-preserved c =
    let at = c.loop-at.at in
    let run = prefix_len-run c.args.bytes.now at (at + 16) (omega arith) (omega arith) (sym c.are_plain.ensures ∙ c.if-not-are_plain.false) in
    (omega arith, omega (arith, run, c.loop-at.invariant.1))
