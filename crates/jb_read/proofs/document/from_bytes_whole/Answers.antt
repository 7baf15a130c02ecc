use Rattle.jb_read.proofs.Answered.{whole_spelled, whole_only, whole_faults, whole_refused}
use Rattle.jb_read.proofs.document.from_bytes_whole.Goals as goal

pub returns-clause-spelled : goal.returns-clause-spelled
returns-clause-spelled c = whole_spelled c.args.bytes.now c.placed_whole.result c.placed_whole.ensures

pub returns-clause-only : goal.returns-clause-only
returns-clause-only c = whole_only c.args.bytes.now c.placed_whole.result c.placed_whole.ensures

pub returns-clause-broken : goal.returns-clause-broken
returns-clause-broken c = whole_faults c.args.bytes.now c.placed_whole.result c.placed_whole.ensures

pub returns-clause-refused : goal.returns-clause-refused
returns-clause-refused c = whole_refused c.args.bytes.now c.placed_whole.result c.placed_whole.ensures
