-- The piece that passes the limit was given as well.
use Rattle.std.proofs.Common.{◌++◌, take, arith, length-append, length-take-le}
use Rattle.std.proofs.KnownBytes.{Consumes-trans}
use Rattle.jb_io.proofs.stream.read_in_pieces.Goals as goal

pub returns-then-count-len-clause-too_long : goal.returns-then-count-len-clause-too_long
returns-then-count-len-clause-too_long g c =
    let held = c.loop-bytes.bytes.items in
    let piece = take c.in_ok-count.count c.read.new.buffer in
    λ _. record {
      bytes = held ++ piece;
      gave = Consumes-trans _ _ _ held piece c.loop-bytes.invariant.1 c.in_ok-count.ensures.bytes.0;
      more = omega (arith, length-append held piece, length-take-le c.in_ok-count.count c.read.new.buffer c.in_ok-count.ensures.within);
    }

-- Where memory ran out, the piece was within the limit.
pub returns-in_err-extend_from_slice-clause-within : goal.returns-in_err-extend_from_slice-clause-within
returns-in_err-extend_from_slice-clause-within g c =
    let held = c.loop-bytes.bytes.items in
    let piece = take c.in_ok-count.count c.read.new.buffer in
    λ _. record {
      bytes = held ++ piece;
      gave = Consumes-trans _ _ _ held piece c.loop-bytes.invariant.1 c.in_ok-count.ensures.bytes.0;
      within = omega (arith, length-append held piece, length-take-le c.in_ok-count.count c.read.new.buffer c.in_ok-count.ensures.within);
    }
