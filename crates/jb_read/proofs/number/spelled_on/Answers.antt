use Rattle.std.proofs.Common.{◌≡◌, ◌<◌, ◌^◌, true, nat_lt, refl, arith}
use Rattle.std.proofs.lemmas.Bool.Decides.{nat_tests}
use Rattle.jb_read.proofs.number.spelled_on.Goals as goal

pub loop-byte-init : goal.loop-byte-init
loop-byte-init c =
    let small : c.args.number < 2 ^ 64 = c.ranges.number.fits in
    let held : nat_lt c.args.number (2 ^ 64) ≡ true = grind (arith, nat_tests) in
    record { so_far = (c.args.number, rw held refl, refl); counted = refl }
