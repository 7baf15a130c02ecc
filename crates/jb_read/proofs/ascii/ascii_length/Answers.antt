use Rattle.std.proofs.Common.{◌≡◌, ◌≤◌, length, take, arith}
use Rattle.std.proofs.lemmas.List.{length-take-le}
use Rattle.jb_read.proofs.AsciiFronts.{ascii_then, ascii_within}
use Rattle.jb_read.proofs.ascii.ascii_length.Goals as goal

pub returns-then-few-lt-RUN-clause-ascii : goal.returns-then-few-lt-RUN-clause-ascii
returns-then-few-lt-RUN-clause-ascii c =
    ascii_within c.args.bytes.now c.ascii_bytes-few.result 8 (omega arith) c.ascii_bytes-few.ensures.ascii

pub returns-clause-ascii : goal.returns-clause-ascii
returns-clause-ascii c =
    let bytes = c.args.bytes.now in
    let n = c.ascii_bytes-few.result in
    let size : length (take 8 bytes) ≡ 8 = length-take-le 8 bytes (omega arith) in
    let few : n ≤ 8 = omega (arith, size, c.ascii_bytes-few.ensures.within) in
    ascii_then bytes n c.ascii_behind.result (ascii_within bytes n 8 few c.ascii_bytes-few.ensures.ascii) c.ascii_behind.ensures.ascii
