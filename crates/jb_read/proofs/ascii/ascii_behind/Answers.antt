use Rattle.jb_read.proofs.AsciiFronts.{ascii_then}
use Rattle.jb_read.proofs.ascii.ascii_behind.Goals as goal

pub returns-clause-ascii : goal.returns-clause-ascii
returns-clause-ascii c =
    ascii_then c.args.bytes.now c.ascii_runs-runs.result c.ascii_bytes.result c.ascii_runs-runs.ensures.ascii c.ascii_bytes.ensures.ascii
