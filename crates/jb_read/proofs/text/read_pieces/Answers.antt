use Rattle.std.proofs.Common.{arith}
use Rattle.jb_read.proofs.Plain.{Goes-text}
use Rattle.jb_read.proofs.text.read_pieces.Goals as goal

pub loop-made-init : goal.loop-made-init
loop-made-init c = record { goes = rw c.new-made.ensures.bytes (Goes-text c.args.cursor.now); no_more = omega arith }
